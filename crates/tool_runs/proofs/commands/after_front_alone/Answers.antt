use Rattle.std.proofs.Common.{subst}
use Rattle.tool_runs.specs.declared.output.ending.Style.{Style}
use Rattle.tool_runs.specs.Commands.{ends_behind}
use Rattle.tool_runs.specs.Stopping.{Concludes}
use Rattle.tool_runs.proofs.Joined.{front_stops}
use Rattle.tool_runs.proofs.Left.{front_stopped, none_left}
use Rattle.tool_runs.proofs.commands.after_front_alone.Goals as goal

pub returns-in-Err-clause-output : goal.returns-in-Err-clause-output
returns-in-Err-clause-output g c =
    let ends = subst (λ (s : Style). Concludes s c.in-Err.stop c.stopped.result (g.K.Sink.taken c.args.sink.now) (g.K.Sink.taken c.stopped.new.sink)) c.writes.ensures c.stopped.ensures.concludes in
    front_stops g.P.Answers.style (ends_behind (g.P.Answers.answered c.args.command.now)) c.args.reader.ahead c.in-Err.stop c.read_front.new.reader c.stopped.result (g.K.Sink.taken c.args.sink.now) (g.K.Sink.taken c.stopped.new.sink) c.in-Err.ensures.front ends

pub returns-in-Err-clause-leaves : goal.returns-in-Err-clause-leaves
returns-in-Err-clause-leaves g c = front_stopped _ _ _ c.in-Err.stop c.read_front.new.reader c.stopped.result _ _ _ c.in-Err.ensures.front c.stopped.ensures.concludes

pub returns-in-Ok-clause-leaves : goal.returns-in-Ok-clause-leaves
returns-in-Ok-clause-leaves g c = none_left c.args.reader.ahead c.in-Ok.front c.read_front.new.reader c.answer_behind.result.1 c.answer_behind.result.0.left c.in-Ok.ensures.front c.answer_behind.ensures.leaves
