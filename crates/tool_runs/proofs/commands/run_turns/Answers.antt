use Rattle.std.proofs.Common.{ℕ, subst}
use Rattle.std.specs.Option.{option_map}
use Rattle.xt_io.specs.Bundles.{nothing}
use Rattle.tool_runs.specs.declared.output.ending.Style.{Style}
use Rattle.tool_runs.specs.output.Runs.{at_number, coming}
use Rattle.tool_runs.specs.Stopping.{Concludes}
use Rattle.tool_runs.proofs.Joined.{turns_ended, turns_stopped}
use Rattle.tool_runs.proofs.commands.run_turns.Goals as goal

pub returns-in-Err-clause-output : goal.returns-in-Err-clause-output
returns-in-Err-clause-output g c =
    let first = option_map (g.P.Run.Turns.to_write c.args.run c.args.number) (coming c.args.next c.args.reader) in
    let rest = at_number (λ (k : ℕ). g.P.Run.Turns.to_write c.run_body-back.new.turns k nothing) c.run_body-back.result.1 in
    let ends = subst (λ (s : Style). Concludes s c.in-Err.stop c.stopped.result (g.K.Sink.taken c.run_body-back.new.sink) (g.K.Sink.taken c.stopped.new.sink)) c.style.ensures c.stopped.ensures.concludes in
    turns_stopped g.P.Run.Turns.style first rest c.run_body-back.result.1 c.in-Err.stop c.stopped.result (g.K.Sink.taken c.args.sink.now) (g.K.Sink.taken c.run_body-back.new.sink) (g.K.Sink.taken c.stopped.new.sink) c.run_body-back.ensures.steps c.in-Err.is ends

pub returns-clause-output : goal.returns-clause-output
returns-clause-output g c =
    let first = option_map (g.P.Run.Turns.to_write c.args.run c.args.number) (coming c.args.next c.args.reader) in
    let last = λ (k : ℕ). g.P.Run.Turns.to_write c.run_body-back.new.turns k nothing in
    turns_ended g.P.Run.Turns.style first last c.in-Ok.field-0 c.run_body-back.result.1 c.end_turns.result (g.K.Sink.taken c.args.sink.now) (g.K.Sink.taken c.run_body-back.new.sink) (g.K.Sink.taken c.end_turns.new.sink) c.run_body-back.ensures.steps c.in-Ok.is c.end_turns.ensures.output
