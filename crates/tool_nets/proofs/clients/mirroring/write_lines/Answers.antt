use Rattle.std.proofs.Common.{Err, ap, arith, ◌∙◌}
use Rattle.tool_runs.specs.declared.output.halt.Halt.{Halt}
use Rattle.tool_nets.specs.clients.Lines.{told_line}
use Rattle.tool_nets.proofs.OfClients.Pieces.{said_less, said_more}
use Rattle.tool_nets.proofs.clients.mirroring.write_lines.Goals as goal

pub returns-in-Err-clause-ends : goal.returns-in-Err-clause-ends
returns-in-Err-clause-ends g c =
    said_less told_line c.args.told.now c.loop-index.index c.at.result.now c.in-Err.halt (g.K.Sink.taken c.args.sink.now) (g.K.Sink.taken c.loop-index.sink) (g.K.Sink.taken c.say_piece.new.sink) c.at.ensures c.loop-index.invariant.said
    (c.in-Err.ensures.says (told_line c.at.result.now) c.told_line.ensures) (λ h. c.in-Err.ensures.halts.no_read (ap (λ (e : Halt). Err e) h))

pub loop-index-preserved : goal.loop-index-preserved
loop-index-preserved g c = record {
  said = said_more told_line c.args.told.now c.loop-index.index c.at.result.now (g.K.Sink.taken c.args.sink.now) (g.K.Sink.taken c.loop-index.sink) (g.K.Sink.taken c.say_piece.new.sink) c.at.ensures c.loop-index.invariant.said (c.in-Ok.ensures.says (told_line c.at.result.now) c.told_line.ensures);
  later = omega (arith, c.loop-index.invariant.later, c.in-Ok.ensures.halts.sink_later);
  same = c.in-Ok.ensures.same ∙ c.loop-index.invariant.same;
}
