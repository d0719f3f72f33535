use Rattle.std.proofs.Common.{◌∙◌, ap, None, ◌≡◌, ◌≢◌, ℕ, subst, Ok, ◌-◌, suc, arith, rules}
use Rattle.std.proofs.lemmas.Result.{err_from_is_err_and}
use Rattle.std.specs.declared.option.Option.{Option}
use Rattle.xt_outside.specs.declared.records.Head.{Head}
use Rattle.xt_outside.specs.Bundles.{front}
use Rattle.xt_io.specs.Fronts.{ReadsFront}
use Rattle.xt_io.specs.Readers.{Reading}
use Rattle.xt_io.proofs.Steps.{passed-behind, cut-ends, steps_behind, steps_cut, steps_end, steps_too_many, steps_none, steps_some, steps_err}
use Rattle.xt_io.proofs.bundle.BundleReader.advance.Goals as goal

is_more : (n : ℕ) → n ≢ 0 → n ≡ suc (n - 1)
is_more n h = omega arith

pub returns-in_err-pass_pending-clause-step : goal.returns-in_err-pass_pending-clause-step
returns-in_err-pass_pending-clause-step g c =
    let good : c.self.inside.fault ≡ None = ap (λ (r : Reading). r.fault) c.self.view_is ∙ c.requires in
    let p = err_from_is_err_and c.from_residual.result c.from_residual.ensures.1 in
    rw (p.1, p.2, ← c.self.view_is, good) (steps_cut _ _ _ _ (cut-ends _ _ _ _ _ c.in_err-pass_pending.ensures.cut))

pub returns-then-branch-lt1-clause-step : goal.returns-then-branch-lt1-clause-step
returns-then-branch-lt1-clause-step g c =
    let good : c.self.inside.fault ≡ None = ap (λ (r : Reading). r.fault) c.self.view_is ∙ c.requires in
    let none : c.self.inside.more ≡ 0 = search rules in
    rw (← c.self.view_is, good, none) (steps_behind _ _ _ _ _ (passed-behind _ _ _ _ _ c.in_ok-pass_pending.ensures.octets) (steps_end _ _ _ _ _ _ c.in_ok-fill.ensures.octets (search rules) c.if-branch-lt1.true))

pub returns-then-self-eq0-clause-step : goal.returns-then-self-eq0-clause-step
returns-then-self-eq0-clause-step g c =
    let good : c.self.inside.fault ≡ None = ap (λ (r : Reading). r.fault) c.self.view_is ∙ c.requires in
    let none : c.self.inside.more ≡ 0 = search rules in
    rw (← c.self.view_is, good, none) (steps_behind _ _ _ _ _ (passed-behind _ _ _ _ _ c.in_ok-pass_pending.ensures.octets) (steps_too_many _ _ _ _ _ _ _ c.in_ok-fill.ensures.octets (search rules) c.if-branch-lt1.false))

pub returns-in_err-read_head-clause-step : goal.returns-in_err-read_head-clause-step
returns-in_err-read_head-clause-step g c =
    let good : c.self.inside.fault ≡ None = ap (λ (r : Reading). r.fault) c.self.view_is ∙ c.requires in
    let p = err_from_is_err_and c.from_residual-in_err-read_head.result c.from_residual-in_err-read_head.ensures.1 in
    let more : c.self.inside.more ≡ suc (c.self.inside.more - 1) = is_more _ c.if-self-eq0.false in
    rw (p.1, p.2, ← c.self.view_is, good, more) (steps_behind _ _ _ _ _ (passed-behind _ _ _ _ _ c.in_ok-pass_pending.ensures.octets) (steps_err _ _ _ _ _ _ _ c.in_err-read_head.ensures.octets))

pub returns-in-None-clause-step : goal.returns-in-None-clause-step
returns-in-None-clause-step g c =
    let good : c.self.inside.fault ≡ None = ap (λ (r : Reading). r.fault) c.self.view_is ∙ c.requires in
    let more : c.self.inside.more ≡ suc (c.self.inside.more - 1) = is_more _ c.if-self-eq0.false in
    let read = subst (λ (o : Option Head). ReadsFront (front c.self.inside.at) (g.S.Source.left c.pass_pending.new.source) (Ok o) (g.S.Source.left c.read_head.new.source)) c.in-None.is c.in_ok-read_head.ensures.octets in
    rw (← c.self.view_is, good, more) (steps_behind _ _ _ _ _ (passed-behind _ _ _ _ _ c.in_ok-pass_pending.ensures.octets) (steps_none _ _ _ _ _ read))

pub returns-in-Some-clause-step : goal.returns-in-Some-clause-step
returns-in-Some-clause-step g c =
    let good : c.self.inside.fault ≡ None = ap (λ (r : Reading). r.fault) c.self.view_is ∙ c.requires in
    let more : c.self.inside.more ≡ suc (c.self.inside.more - 1) = is_more _ c.if-self-eq0.false in
    let read = subst (λ (o : Option Head). ReadsFront (front c.self.inside.at) (g.S.Source.left c.pass_pending.new.source) (Ok o) (g.S.Source.left c.read_head.new.source)) c.in-Some.is c.in_ok-read_head.ensures.octets in
    rw (← c.self.view_is, good, c.from.ensures) (steps_behind _ _ _ _ _ (passed-behind _ _ _ _ _ c.in_ok-pass_pending.ensures.octets) (steps_some c.self.inside.more (c.self.inside.more - 1) c.self.inside.at c.in-Some.head _ (g.S.Source.left c.read_head.new.source) more read))
