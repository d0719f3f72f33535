use Rattle.std.proofs.Common.{rules, ◌≡◌, ◌∙◌, sym, ap, refl, ◌≤◌, ◌==◌, true, false, length, take, drop, arith, Ok, eq-eqb, ◌++◌}
use Rattle.std.proofs.lemmas.Bool.{ne_eqb}
use Rattle.std.proofs.lemmas.Result.{err_from_is_err_and}
use Rattle.xt_shapes.specs.declared.leaves.Order.{Order}
use Rattle.xcdr_model.specs.Numbers.{number}
use Rattle.xcdr_model.specs.Reading.{fault_at, octets_at}
use Rattle.xcdr_model.specs.declared.malformed.Why.TheVariants.{Parameter}
use Rattle.xcdr_model.specs.Xcdr1Reading.{long_mark}
use Rattle.xt_wire.specs.cursor.Standing.{room}
use Rattle.xt_wire.proofs.OfCursor.Ahead.{goes_on, fails, ends, rephrased, malformed}
use Rattle.xcdr_steps.specs.one.Marks.{mark_view, opening_view, told_long}
use Rattle.xcdr_steps.proofs.OfOne.MarkSteps.{long_checked, long_starts, long_told}
use Rattle.xcdr_steps.proofs.one.marks.read_long.Goals as goal

pub returns-in_err-read_octets : goal.returns-in_err-read_octets
returns-in_err-read_octets g c =
    let a = g.C.Cursor.state c.args.cursor.now in
    let v = opening_view a c.args.opening in
    let into = c.read_octets.new.into in
    let fits : 8 ≤ room a = omega (arith, c.if-region_end-place-lt8.false, c.region_end.ensures, c.place.ensures) in
    let u = long_starts v (length into) a c.read_octets.auto.into (g.met.C.Cursor.stands c.args.cursor.now) fits in
    let p = err_from_is_err_and c.from_residual.result c.from_residual.ensures.1 in
    rw (p.1, p.2) (fails (λ u. into) mark_view (λ o s. octets_at (length into) s) (long_checked v) u c.in_err-read_octets.ensures)

pub returns-then-number-ne8 : goal.returns-then-number-ne8
returns-then-number-ne8 g c =
    let a = g.C.Cursor.state c.args.cursor.now in
    let b = g.C.Cursor.state c.read_octets.new.cursor in
    let v = opening_view a c.args.opening in
    let into = c.read_octets.new.into in
    let fits : 8 ≤ room a = omega (arith, c.if-region_end-place-lt8.false, c.region_end.ensures, c.place.ensures) in
    let u = goes_on (λ u. into) (λ o s. octets_at (length into) s) (long_checked v) (long_starts v (length into) a c.read_octets.auto.into (g.met.C.Cursor.stands c.args.cursor.now) fits) c.in_ok-read_octets.ensures in
    let told : c.number.result ≡ number b.order (take 2 (drop 2 c.args.opening.octets)) = c.number.ensures.value ∙ ap (λ (o : Order). number o (take 2 (drop 2 c.args.opening.octets))) c.order-order.ensures in
    let other : (number b.order (take 2 (drop 2 c.args.opening.octets)) == 8) ≡ false = ne_eqb _ _ (λ e. c.if-number-ne8.true (told ∙ e)) in
    rw c.malformed-then-number-ne8.ensures (malformed mark_view (λ s. v.0) Parameter (rephrased (long_checked v into) (λ o s. fault_at v.0 Parameter) u (λ xs e. rw other refl)) (λ xs. omega (arith, c.requires, c.in_ok-read_octets.ensures.within.origin)))

pub returns : goal.returns
returns g c =
    let a = g.C.Cursor.state c.args.cursor.now in
    let b = g.C.Cursor.state c.read_octets.new.cursor in
    let v = opening_view a c.args.opening in
    let into = c.read_octets.new.into in
    let fits : 8 ≤ room a = omega (arith, c.if-region_end-place-lt8.false, c.region_end.ensures, c.place.ensures) in
    let u = goes_on (λ u. into) (λ o s. octets_at (length into) s) (long_checked v) (long_starts v (length into) a c.read_octets.auto.into (g.met.C.Cursor.stands c.args.cursor.now) fits) c.in_ok-read_octets.ensures in
    let told : c.number.result ≡ number b.order (take 2 (drop 2 c.args.opening.octets)) = c.number.ensures.value ∙ ap (λ (o : Order). number o (take 2 (drop 2 c.args.opening.octets))) c.order-order.ensures in
    let eight : (number b.order (take 2 (drop 2 c.args.opening.octets)) == 8) ≡ true = eq-eqb _ _ (sym told ∙ c.if-number-ne8.false) in
    let four : length c.args.opening.octets ≡ 4 = search rules in
    let w = rephrased (long_checked v into) (λ o s. Ok (long_mark o (v.1 ++ into), s)) u (λ xs e. rw eight refl) in
    ends mark_view (λ o. long_mark o (v.1 ++ into)) w (c.long_mark.ensures ∙ ap (λ (o : Order). told_long o into) (c.order-order.ensures ∙ c.in_ok-read_octets.ensures.within.order) ∙ sym (long_told a.order c.args.opening.octets into four))
