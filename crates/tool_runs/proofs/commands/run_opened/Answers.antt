use Rattle.std.proofs.Common.{subst}
use Rattle.tool_runs.specs.declared.output.ending.Style.{Style}
use Rattle.tool_runs.specs.output.Runs.{coming}
use Rattle.tool_runs.specs.Stopping.{Concludes}
use Rattle.tool_runs.proofs.Joined.{opening_stopped, opening_went}
use Rattle.tool_runs.proofs.commands.run_opened.Goals as goal

pub returns-in-Err-clause-output : goal.returns-in-Err-clause-output
returns-in-Err-clause-output g c =
    let ends = subst (λ (s : Style). Concludes s c.in-Err.stop c.stopped.result (g.K.Sink.taken c.begin.new.sink) (g.K.Sink.taken c.stopped.new.sink)) c.style.ensures c.stopped.ensures.concludes in
    opening_stopped g.P.Run.Turns.style (g.P.Prepares.opening c.args.run) (g.P.Run.Turns.to_write c.args.run c.args.number) (coming c.args.next c.args.reader) c.in-Err.stop c.stopped.result (g.K.Sink.taken c.args.sink.now) (g.K.Sink.taken c.begin.new.sink) (g.K.Sink.taken c.stopped.new.sink)
    (λ rest. c.in-Err.ensures.steps rest) ends

pub returns-in-Ok-clause-output : goal.returns-in-Ok-clause-output
returns-in-Ok-clause-output g c =
    opening_went (g.P.Prepares.opening c.args.run) (g.P.Run.Turns.to_write c.args.run c.args.number) (coming c.args.next c.args.reader) c.run_turns.result.1 (g.K.Sink.taken c.args.sink.now) (g.K.Sink.taken c.begin.new.sink) (g.K.Sink.taken c.run_turns.new.sink)
    (λ rest. c.in-Ok.ensures.steps rest) c.run_turns.ensures.output
