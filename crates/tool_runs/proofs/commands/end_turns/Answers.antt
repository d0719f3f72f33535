use Rattle.std.proofs.Common.{Some, refl, subst}
use Rattle.xt_io.specs.Bundles.{nothing}
use Rattle.tool_runs.specs.declared.output.ending.Style.{Style}
use Rattle.tool_runs.specs.declared.output.ending.Ending.TheVariants.{Done}
use Rattle.tool_runs.specs.output.Outputs.{finished}
use Rattle.tool_runs.specs.Stopping.{Concludes}
use Rattle.tool_runs.proofs.Joined.{all_done, concluded}
use Rattle.tool_runs.proofs.commands.end_turns.Goals as goal

pub returns-in-Err-clause-output : goal.returns-in-Err-clause-output
returns-in-Err-clause-output g c number =
    let ends = subst (λ (s : Style). Concludes s c.in-Err.stop c.stopped.result (g.K.Sink.taken c.end.new.sink) (g.K.Sink.taken c.stopped.new.sink)) c.style.ensures c.stopped.ensures.concludes in
    concluded (Unit {0}) g.P.Run.Turns.style (Some (g.P.Run.Turns.to_write c.args.turns.now number nothing)) (Some finished) c.in-Err.stop c.stopped.result (g.K.Sink.taken c.args.sink.now) (g.K.Sink.taken c.end.new.sink) (g.K.Sink.taken c.stopped.new.sink) (c.in-Err.ensures.steps number) ends

pub returns-in-Ok-clause-output : goal.returns-in-Ok-clause-output
returns-in-Ok-clause-output g c number =
    all_done (Some (g.P.Run.Turns.to_write c.args.turns.now number nothing)) finished Done (g.K.Sink.taken c.args.sink.now) (g.K.Sink.taken c.end.new.sink) refl (c.in-Ok.ensures.steps number)
