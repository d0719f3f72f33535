use Rattle.std.proofs.Common.{◌≡◌, List, [], Result, Ok, map, subst}
use Rattle.xt_io.specs.declared.Item.{Item}
use Rattle.type_object.specs.Pools.{Texts}
use Rattle.tool_runs.specs.declared.output.stop.Stop.{Stop}
use Rattle.tool_runs.specs.output.Runs.{coming}
use Rattle.tool_types.specs.Types.{Declared, declare}
use Rattle.tool_types.specs.Declaring.{declared_view}
use Rattle.tool_nets.proofs.Behind.{Closes, Stops, rest_stops, types_go, types_stop}
use Rattle.tool_nets.proofs.Causes.{types_cause}
use Rattle.tool_nets.proofs.opening.objects_of.Goals as goal

pub returns-in-Err-closed-clause-opened : goal.returns-in-Err-closed-clause-opened
returns-in-Err-closed-clause-opened g c =
    let front = c.in-Ok.front in
    let reader = c.read_front.new.reader in
    let shut = subst (λ (r : Result (Unit {0}) Stop). Closes (coming front.next reader) r) c.in-Err-closed.is c.close_body-back.ensures.closed in
    rest_stops c.args.reader.ahead front reader c.in-Err-closed.stop c.in-Ok.ensures.front shut

pub returns-in-Ok-declare-clause-opened : goal.returns-in-Ok-declare-clause-opened
returns-in-Ok-declare-clause-opened g c =
    let front = c.in-Ok.front in
    let reader = c.read_front.new.reader in
    let shut = subst (λ (r : Result (Unit {0}) Stop). Closes (coming front.next reader) r) c.in_default.is c.close_body-back.ensures.closed in
    let types : List Declared × Texts = (map declared_view c.in-Ok-declare.field-0-0, c.in-Ok-declare.pool) in
    let declared = subst (λ (l : List Item). declare 0 [] l ≡ Ok types) c.as_slice.ensures c.in-Ok-declare.ensures.declared in
    types_go c.args.reader.ahead front reader types c.in-Ok.ensures.front shut declared

pub returns-clause-opened : goal.returns-clause-opened
returns-clause-opened g c =
    let front = c.in-Ok.front in
    let reader = c.read_front.new.reader in
    let stop = c.in-Err-declare.stop in
    let shut = subst (λ (r : Result (Unit {0}) Stop). Closes (coming front.next reader) r) c.in_default.is c.close_body-back.ensures.closed in
    let refused = subst (λ (l : List Item). Stops (declare 0 [] l) stop) c.as_slice.ensures c.in-Err-declare.ensures.declared in
    types_stop c.args.reader.ahead front reader stop c.in-Ok.ensures.front shut refused

pub returns-clause-cause : goal.returns-clause-cause
returns-clause-cause g c = types_cause c.as_slice.result.now c.in-Err-declare.stop c.in-Err-declare.ensures.declared
