use Rattle.std.proofs.Common.{ℕ, min}
use Rattle.std.proofs.lemmas.Result.{err_from_is_err_and}
use Rattle.xt_shapes.specs.declared.leaves.Order.{Order}
use Rattle.xcdr_model.specs.Reading.{Spot, Reading, number_at, ◌>>=◌}
use Rattle.xt_wire.specs.cursor.Steps.{align_at, digits_at}
use Rattle.xt_wire.specs.cursor.Standing.{Standing}
use Rattle.xt_wire.proofs.OfCursor.Ahead.{Ahead, begins, goes_on, fails, last, number_parts}
use Rattle.xt_wire.proofs.cursor.reading.read_number.Goals as goal

digits_after : ℕ → Unit {0} → Order → Spot → Reading ℕ
digits_after k u o s = digits_at k o s

starts : (most k : ℕ) (a : Standing) → Ahead (λ o. number_at most o k) (λ o s. align_at (min k most) o s >>= λ x. digits_after k x.0 o x.1) a a
unfolding digits_after
starts most k a = begins (λ o. number_at most o k) _ a (λ s. number_parts most a.order k s)

pub returns-in_err-read_align : goal.returns-in_err-read_align
returns-in_err-read_align g c =
    let p = err_from_is_err_and c.from_residual.result c.from_residual.ensures.1 in
    rw (p.1, p.2) (fails (λ u. u) (λ n. n) (align_at (min c.args.size c.args.most)) (digits_after c.args.size) (starts c.args.most c.args.size (g.C.Cursor.state c.args.cursor.now)) c.in_err-read_align.ensures)

pub returns : goal.returns
unfolding digits_after
returns g c =
    let u = goes_on (λ u. u) (align_at (min c.args.size c.args.most)) (digits_after c.args.size) (starts c.args.most c.args.size (g.C.Cursor.state c.args.cursor.now)) c.in_ok-read_align.ensures in
    last (λ n. n) (digits_at c.args.size) u c.read_digits.ensures.value
