use Rattle.std.proofs.Common.{Result, subst}
use Rattle.std.specs.Prelude.{OnOk}
use Rattle.std.specs.Option.{option_map}
use Rattle.std.specs.Io.KnownBytes.{IsAtEnd}
use Rattle.tool_runs.specs.declared.output.ending.Style.{Style}
use Rattle.tool_runs.specs.declared.output.stop.Stop.{Stop}
use Rattle.tool_runs.specs.output.Runs.{ComesTold, coming}
use Rattle.tool_runs.specs.front.Fronts.{closed}
use Rattle.tool_runs.specs.Stopping.{Concludes}
use Rattle.tool_runs.proofs.Joined.{closed_stops}
use Rattle.tool_runs.proofs.Left.{rest_stopped, rest_read}
use Rattle.tool_runs.proofs.commands.answer_behind.Goals as goal

pub returns-in-Err-clause-output : goal.returns-in-Err-clause-output
returns-in-Err-clause-output g c =
    let body = coming c.args.front.next c.args.reader in
    let told = subst (λ (r : Result (Unit {0}) Stop). ComesTold {X = Unit {0}} (option_map closed body) (λ u. u) r) c.in-Err.is c.close_body-back.ensures.closed in
    let ends = subst (λ (s : Style). Concludes s c.in-Err.stop c.stopped.result (g.K.Sink.taken c.args.sink.now) (g.K.Sink.taken c.stopped.new.sink)) c.writes.ensures c.stopped.ensures.concludes in
    closed_stops {X = Unit {0}} g.P.Answers.style (g.P.Answers.answered c.args.command.now) c.args.front.records (λ u. u) body c.in-Err.stop c.stopped.result (g.K.Sink.taken c.args.sink.now) (g.K.Sink.taken c.stopped.new.sink) told ends

pub returns-in-Err-clause-leaves : goal.returns-in-Err-clause-leaves
returns-in-Err-clause-leaves g c =
    let body = coming c.args.front.next c.args.reader in
    let told = subst (λ (r : Result (Unit {0}) Stop). ComesTold {X = Unit {0}} (option_map closed body) (λ u. u) r) c.in-Err.is c.close_body-back.ensures.closed in
    rest_stopped body _ c.in-Err.stop c.stopped.result c.close_body-back.result.0.left _ _ told c.stopped.ensures.concludes

pub returns-clause-leaves : goal.returns-clause-leaves
returns-clause-leaves g c =
    let closed_well = subst (λ (r : Result (Unit {0}) Stop). OnOk r (IsAtEnd c.close_body-back.result.0.left)) c.in-Ok.is c.close_body-back.ensures.ended in
    rest_read (coming c.args.front.next c.args.reader) c.answer_ended-ended.result c.close_body-back.result.0.left closed_well
