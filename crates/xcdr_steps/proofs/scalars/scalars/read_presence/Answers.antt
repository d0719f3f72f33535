use Rattle.std.proofs.Common.{arith, refl, ◌≡◌, ◌-◌, ◌==◌, Ok, true, false, nat_lt}
use Rattle.std.proofs.lemmas.Bool.{le-ltb, lt-ltb}
use Rattle.std.proofs.lemmas.Result.{err_from_is_err_and}
use Rattle.xcdr_model.specs.declared.malformed.Why.TheVariants as why
use Rattle.xcdr_model.specs.Reading.{fault_at, ◌>>=◌}
use Rattle.xt_wire.specs.cursor.Steps.{placed_at}
use Rattle.xt_wire.specs.cursor.Placing.{placed_view}
use Rattle.xt_wire.proofs.OfCursor.Ahead.{goes_on, fails, ends, rephrased, malformed}
use Rattle.xcdr_steps.proofs.OfScalars.ScalarSteps.{presence_starts, presence}
use Rattle.xcdr_steps.proofs.scalars.scalars.read_presence.Goals as goal

pub returns-in_err-placed : goal.returns-in_err-placed
returns-in_err-placed g c =
    let a = g.C.Cursor.state c.args.cursor.now in
    let p = err_from_is_err_and c.from_residual.result c.from_residual.ensures.1 in
    rw (p.1, p.2) (fails (placed_view a) (λ b. b) (placed_at 4 1) presence (presence_starts a) c.in_err-placed.ensures.value)

pub returns : goal.returns
unfolding ◌>>=◌
returns g c =
    let a = g.C.Cursor.state c.args.cursor.now in
    let n = c.in_ok-placed.placed in
    let d = c.in_ok-placed.ensures in
    let u = goes_on (placed_view a) (placed_at 4 1) presence (presence_starts a) d.value in
    let fine : nat_lt 1 n.number ≡ false = le-ltb _ _ c.if-placed-gt1.false in
    let w = rephrased (presence (placed_view a n)) (λ o s. Ok (n.number == 1, s)) u (λ xs e. rw fine refl) in
    ends (λ b. b) (λ o. n.number == 1) w refl

pub returns-then-placed-gt1 : goal.returns-then-placed-gt1
unfolding ◌>>=◌
returns-then-placed-gt1 g c =
    let a = g.C.Cursor.state c.args.cursor.now in
    let n = c.in_ok-placed.placed in
    let d = c.in_ok-placed.ensures in
    let u = goes_on (placed_view a) (placed_at 4 1) presence (presence_starts a) d.value in
    let bad : nat_lt 1 n.number ≡ true = lt-ltb _ _ c.if-placed-gt1.true in
    let w = rephrased (presence (placed_view a n)) (λ o s. fault_at (n.at - a.origin) why.Boolean) u (λ xs e. rw bad refl) in
    malformed (λ b. b) (λ s. n.at - a.origin) why.Boolean w (λ xs. omega (arith, d.at, d.value.within.origin))
