use Rattle.std.proofs.Common.{arith, Ok, refl, ℕ, ◌-◌, min}
use Rattle.std.proofs.lemmas.Result.{err_from_is_err_and}
use Rattle.xt_shapes.specs.declared.leaves.Order.{Order}
use Rattle.xcdr_model.specs.Reading.{Spot, Reading, ◌>>=◌}
use Rattle.xt_wire.specs.cursor.Steps.{align_at, digits_at, placed_at}
use Rattle.xt_wire.specs.cursor.Standing.{Standing}
use Rattle.xt_wire.specs.cursor.Decoding.{Decodes}
use Rattle.xt_wire.specs.cursor.Placing.{placed_view}
use Rattle.xt_wire.proofs.OfCursor.Ahead.{Ahead, begins, goes_on, fails, ends, rephrased, placed_parts, at_place}
use Rattle.xt_wire.proofs.cursor.reading.read_placed.Goals as goal

digits_after : ℕ → Unit {0} → Order → Spot → Reading (ℕ × ℕ)
digits_after k u o s = digits_at k o s >>= at_place s.at

with_place : ℕ → ℕ → Order → Spot → Reading (ℕ × ℕ)
with_place p n o s = at_place p (n, s)

starts : (most k : ℕ) (a : Standing) → Ahead (placed_at most k) (λ o s. align_at (min k most) o s >>= λ x. digits_after k x.0 o x.1) a a
unfolding digits_after
starts most k a = begins (placed_at most k) _ a (λ s. placed_parts most a.order k s)

aligned : (most k : ℕ) (a b : Standing) → Decodes {T = Unit {0}} (λ u. u) (align_at (min k most)) a b (Ok tt) → Ahead (placed_at most k) (λ o s. digits_at k o s >>= λ n. with_place (b.place - b.origin) n.0 o n.1) a b
unfolding digits_after with_place
aligned most k a b d = rephrased (digits_after k tt) (λ o s. digits_at k o s >>= λ n. with_place (b.place - b.origin) n.0 o n.1) (goes_on (λ u. u) (align_at (min k most)) (digits_after k) (starts most k a) d) (λ xs is. refl)

pub returns-in_err-read_align : goal.returns-in_err-read_align
returns-in_err-read_align g c =
    let p = err_from_is_err_and c.from_residual.result c.from_residual.ensures.1 in
    rw (p.1, p.2) (record { at = tt; below = tt; value = fails (λ u. u) (placed_view (g.C.Cursor.state c.args.cursor.now)) (align_at (min c.args.size c.args.most)) (digits_after c.args.size) (starts c.args.most c.args.size (g.C.Cursor.state c.args.cursor.now)) c.in_err-read_align.ensures })

pub returns-in_err-number : goal.returns-in_err-number
returns-in_err-number g c =
    let p = err_from_is_err_and c.from_residual-in_err-number.result c.from_residual-in_err-number.ensures.1 in
    let b = g.C.Cursor.state c.read_align.new.cursor in
    let u = aligned c.args.most c.args.size (g.C.Cursor.state c.args.cursor.now) b c.in_ok-read_align.ensures in
    rw (p.1, p.2) (record { at = tt; below = tt; value = fails (λ n. n) (placed_view (g.C.Cursor.state c.args.cursor.now)) (digits_at c.args.size) (with_place (b.place - b.origin)) u c.in_err-number.ensures.value })

pub returns-clause-value : goal.returns-clause-value
unfolding with_place
returns-clause-value g c =
    let b = g.C.Cursor.state c.read_align.new.cursor in
    let u = aligned c.args.most c.args.size (g.C.Cursor.state c.args.cursor.now) b c.in_ok-read_align.ensures in
    let v = goes_on (λ n. n) (digits_at c.args.size) (with_place (b.place - b.origin)) u c.in_ok-number.ensures.value in
    ends (placed_view (g.C.Cursor.state c.args.cursor.now)) (λ o. (b.place - b.origin, c.in_ok-number.number)) v (rw (c.place-at.ensures, ← c.in_ok-read_align.ensures.within.origin) refl)

pub returns-clause-at : goal.returns-clause-at
returns-clause-at g c =
    let st = g.met.C.Cursor.stands c.read_align.new.cursor in
    omega (arith, c.place-at.ensures, st.from_origin, c.in_ok-read_align.ensures.within.origin)
