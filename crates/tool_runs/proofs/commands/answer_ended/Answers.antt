use Rattle.std.proofs.Common.{Some, None, subst}
use Rattle.tool_runs.specs.declared.output.ending.Ending.{Ending}
use Rattle.tool_runs.specs.declared.output.ending.Style.{Style}
use Rattle.tool_runs.specs.output.Outputs.{unless_refused}
use Rattle.tool_runs.specs.Stopping.{Concludes}
use Rattle.tool_runs.proofs.Joined.{concluded}
use Rattle.tool_runs.proofs.commands.answer_ended.Goals as goal

pub returns-in-Err-clause-output : goal.returns-in-Err-clause-output
returns-in-Err-clause-output g c =
    let ends = subst (λ (s : Style). Concludes s c.in-Err.stop c.stopped.result (g.K.Sink.taken c.answer.new.sink) (g.K.Sink.taken c.stopped.new.sink)) c.writes.ensures c.stopped.ensures.concludes in
    concluded Ending g.P.Answers.style (Some (unless_refused g.P.Answers.style (g.P.Answers.answered c.args.command.now c.args.records.now))) None c.in-Err.stop c.stopped.result (g.K.Sink.taken c.args.sink.now) (g.K.Sink.taken c.answer.new.sink) (g.K.Sink.taken c.stopped.new.sink) c.in-Err.ensures.steps ends
