use Rattle.std.proofs.Common.{◌≡◌, Ok, Some, subst, ap, ◌∙◌, take}
use Rattle.std.proofs.lemmas.Result.{err_from_is_err_and}
use Rattle.std.specs.Option.{option_map}
use Rattle.std.specs.declared.option.Option.{Option}
use Rattle.xt_outside.specs.declared.records.Head.{Head}
use Rattle.xt_io.specs.declared.bundle.Pending.{Pending}
use Rattle.xt_io.specs.Readers.{StepsToHead, CutsPayload, inside, rest_of, pending_after}
use Rattle.xt_io.proofs.Steps.{steps-item, steps-cut-item}
use Rattle.xt_io.proofs.bundle.BundleReader.next_item.Goals as goal

pub returns-in_err-payload-clause-step : goal.returns-in_err-payload-clause-step
returns-in_err-payload-clause-step g c =
    let p = err_from_is_err_and c.from_residual-in_err-payload.result c.from_residual-in_err-payload.ensures.1 in
    let pending = subst (λ (o : Option Head). c.next_head.new.self.pending ≡ pending_after (Ok o)) c.in-Some.is (c.in_ok-head.ensures.pending c.in_ok-head.ensures.answers.unmet) in
    let first = subst (λ (o : Option Head). StepsToHead c.args.self.now.ahead (Ok o) (inside c.next_head.new.self) c.next_head.new.self.ahead) c.in-Some.is c.in_ok-head.ensures.step in
    let step = subst (λ (o : Option Pending). StepsToHead c.args.self.now.ahead (Ok (Some c.in-Some.head)) (option_map (take (rest_of o)) c.next_head.new.self.left) c.next_head.new.self.ahead) pending first in
    let cut = subst (λ (o : Option Pending). CutsPayload o c.next_head.new.self.left c.in_err-payload.field-0.0) pending (c.in_err-payload.ensures.cut c.in_ok-head.ensures.answers.good) in
    rw (p.1, p.2) (steps-cut-item c.in-Some.head _ _ _ _ _ step cut)

pub returns-clause-step : goal.returns-clause-step
returns-clause-step g c =
    let pending = subst (λ (o : Option Head). c.next_head.new.self.pending ≡ pending_after (Ok o)) c.in-Some.is (c.in_ok-head.ensures.pending c.in_ok-head.ensures.answers.unmet) in
    let first = subst (λ (o : Option Head). StepsToHead c.args.self.now.ahead (Ok o) (inside c.next_head.new.self) c.next_head.new.self.ahead) c.in-Some.is c.in_ok-head.ensures.step in
    steps-item c.in-Some.head _ _ _ _ _ first c.in_ok-payload.ensures.octets (c.in_ok-payload.ensures.whole ∙ ap rest_of pending) c.in_ok-payload.ensures.ahead
