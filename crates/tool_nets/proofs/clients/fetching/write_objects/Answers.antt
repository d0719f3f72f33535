use Rattle.std.proofs.Common.{◌≡◌, ℕ, List, Err, IfOk, ap, subst, arith, ◌∙◌}
use Rattle.xt_io.specs.declared.Kind.TheVariants.{Object}
use Rattle.xt_io.specs.Records.{record_octets}
use Rattle.tool_runs.specs.declared.output.halt.Halt.{Halt}
use Rattle.tool_nets.specs.clients.Lines.{object_record}
use Rattle.tool_nets.proofs.OfClients.Pieces.{said_less, said_more}
use Rattle.tool_nets.proofs.clients.fetching.write_objects.Goals as goal

pub returns-in-Err-clause-ends : goal.returns-in-Err-clause-ends
returns-in-Err-clause-ends g c =
    let object = c.at.result.now in
    let piece = subst (λ (o : List ℕ). IfOk c.record-piece.result (λ text. text ≡ record_octets Object o)) c.octets.ensures c.record-piece.ensures in
    said_less object_record c.args.objects.now c.loop-index.index object c.in-Err.halt (g.K.Sink.taken c.args.sink.now) (g.K.Sink.taken c.loop-index.sink) (g.K.Sink.taken c.say_piece.new.sink) c.at.ensures c.loop-index.invariant.said
    (c.in-Err.ensures.says (object_record object) piece) (λ h. c.in-Err.ensures.halts.no_read (ap (λ (e : Halt). Err e) h))

pub loop-index-preserved : goal.loop-index-preserved
loop-index-preserved g c =
    let object = c.at.result.now in
    let piece = subst (λ (o : List ℕ). IfOk c.record-piece.result (λ text. text ≡ record_octets Object o)) c.octets.ensures c.record-piece.ensures in
    record {
      said = said_more object_record c.args.objects.now c.loop-index.index object (g.K.Sink.taken c.args.sink.now) (g.K.Sink.taken c.loop-index.sink) (g.K.Sink.taken c.say_piece.new.sink) c.at.ensures c.loop-index.invariant.said (c.in-Ok.ensures.says (object_record object) piece);
      later = omega (arith, c.loop-index.invariant.later, c.in-Ok.ensures.halts.sink_later);
      same = c.in-Ok.ensures.same ∙ c.loop-index.invariant.same;
    }
