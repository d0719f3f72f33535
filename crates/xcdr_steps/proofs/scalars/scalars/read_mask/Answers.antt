use Rattle.std.proofs.Common.{rules, arith, refl, sym, ◌∙◌, ◌≡◌, pos, ◌-◌, ◌^◌, Ok, true, false, nat_le}
use Rattle.std.proofs.lemmas.Result.{err_from_is_err_and}
use Rattle.xt_shapes.specs.Sizes.{mask_size}
use Rattle.xcdr_model.specs.declared.malformed.Why.TheVariants as why
use Rattle.xcdr_model.specs.Reading.{fault_at}
use Rattle.xt_wire.specs.cursor.Steps.{placed_at}
use Rattle.xt_wire.specs.cursor.Placing.{placed_view}
use Rattle.xt_wire.proofs.OfCursor.Ahead.{goes_on, fails, ends, rephrased, malformed}
use Rattle.xcdr_steps.proofs.OfScalars.ScalarSteps.{mask_starts, mask_value}
use Rattle.xcdr_steps.proofs.scalars.scalars.read_mask.Goals as goal

pub returns-in_err-placed : goal.returns-in_err-placed
returns-in_err-placed g c =
    let a = g.C.Cursor.state c.args.cursor.now in
    let p = err_from_is_err_and c.from_residual.result c.from_residual.ensures.1 in
    rw (p.1, p.2) (fails (placed_view a) (λ i. i) (placed_at c.args.most (mask_size c.args.bits)) (mask_value c.args.bits) (mask_starts c.args.most c.args.bits a) (rw (← c.mask_size.ensures.size) c.in_err-placed.ensures.value))

pub returns : goal.returns
returns g c =
    let a = g.C.Cursor.state c.args.cursor.now in
    let n = c.in_ok-placed.placed in
    let d = c.in_ok-placed.ensures in
    let u = goes_on (placed_view a) (placed_at c.args.most (mask_size c.args.bits)) (mask_value c.args.bits) (mask_starts c.args.most c.args.bits a) (rw (← c.mask_size.ensures.size) d.value) in
    let fine : nat_le (2 ^ c.args.bits) n.number ≡ false = sym c.is_past_bits.ensures ∙ c.if-is_past_bits.false in
    let w = rephrased (mask_value c.args.bits (placed_view a n)) (λ o s. Ok (pos n.number, s)) u (λ xs e. rw fine refl) in
    ends (λ i. i) (λ o. pos n.number) w (search rules)

pub returns-then-is_past_bits : goal.returns-then-is_past_bits
returns-then-is_past_bits g c =
    let a = g.C.Cursor.state c.args.cursor.now in
    let n = c.in_ok-placed.placed in
    let d = c.in_ok-placed.ensures in
    let u = goes_on (placed_view a) (placed_at c.args.most (mask_size c.args.bits)) (mask_value c.args.bits) (mask_starts c.args.most c.args.bits a) (rw (← c.mask_size.ensures.size) d.value) in
    let bad : nat_le (2 ^ c.args.bits) n.number ≡ true = sym c.is_past_bits.ensures ∙ c.if-is_past_bits.true in
    let w = rephrased (mask_value c.args.bits (placed_view a n)) (λ o s. fault_at (n.at - a.origin) why.Mask) u (λ xs e. rw bad refl) in
    malformed (λ i. i) (λ s. n.at - a.origin) why.Mask w (λ xs. omega (arith, d.at, d.value.within.origin))
