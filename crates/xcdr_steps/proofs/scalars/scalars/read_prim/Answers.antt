use Rattle.std.proofs.Common.{rules, arith, refl, sym, ◌∙◌, ◌≡◌, ◌-◌, ◌&&◌, Ok, true, false, nat_lt}
use Rattle.std.proofs.lemmas.Result.{err_from_is_err_and}
use Rattle.xt_shapes.specs.Sizes.{size, is_boolean, is_signed}
use Rattle.xcdr_model.specs.declared.malformed.Why.TheVariants as why
use Rattle.xcdr_model.specs.Numbers.{with_sign}
use Rattle.xcdr_model.specs.Reading.{fault_at, ◌>>=◌}
use Rattle.xt_wire.specs.cursor.Steps.{placed_at}
use Rattle.xt_wire.specs.cursor.Placing.{placed_view}
use Rattle.xt_wire.proofs.OfCursor.Ahead.{goes_on, fails, ends, rephrased, malformed}
use Rattle.xcdr_steps.proofs.OfScalars.ScalarSteps.{prim_starts, prim_value}
use Rattle.xcdr_steps.proofs.scalars.scalars.read_prim.Goals as goal

pub returns-in_err-placed : goal.returns-in_err-placed
returns-in_err-placed g c =
    let a = g.C.Cursor.state c.args.cursor.now in
    let p = err_from_is_err_and c.from_residual.result c.from_residual.ensures.1 in
    rw (p.1, p.2) (fails (placed_view a) (λ i. i) (placed_at c.args.most (size c.args.prim)) (prim_value c.args.prim) (prim_starts c.args.most c.args.prim a) (rw (← c.prim_size.ensures.size) c.in_err-placed.ensures.value))

pub returns : goal.returns
unfolding ◌>>=◌
returns g c =
    let a = g.C.Cursor.state c.args.cursor.now in
    let n = c.in_ok-placed.placed in
    let p = c.args.prim in
    let d = c.in_ok-placed.ensures in
    let u = goes_on (placed_view a) (placed_at c.args.most (size p)) (prim_value p) (prim_starts c.args.most p a) (rw (← c.prim_size.ensures.size) d.value) in
    let fine : (is_boolean p && nat_lt 1 n.number) ≡ false = sym c.is_no_boolean.ensures ∙ c.if-is_no_boolean.false in
    let w = rephrased (prim_value p (placed_view a n)) (λ o s. Ok (with_sign (size p) (is_signed p) n.number, s)) u (λ xs e. rw fine refl) in
    ends (λ i. i) (λ o. with_sign (size p) (is_signed p) n.number) w (search rules)

pub returns-then-is_no_boolean : goal.returns-then-is_no_boolean
unfolding ◌>>=◌
returns-then-is_no_boolean g c =
    let a = g.C.Cursor.state c.args.cursor.now in
    let n = c.in_ok-placed.placed in
    let p = c.args.prim in
    let d = c.in_ok-placed.ensures in
    let u = goes_on (placed_view a) (placed_at c.args.most (size p)) (prim_value p) (prim_starts c.args.most p a) (rw (← c.prim_size.ensures.size) d.value) in
    let bad : (is_boolean p && nat_lt 1 n.number) ≡ true = sym c.is_no_boolean.ensures ∙ c.if-is_no_boolean.true in
    let w = rephrased (prim_value p (placed_view a n)) (λ o s. fault_at (n.at - a.origin) why.Boolean) u (λ xs e. rw bad refl) in
    malformed (λ i. i) (λ s. n.at - a.origin) why.Boolean w (λ xs. omega (arith, d.at, d.value.within.origin))
