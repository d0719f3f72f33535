use Rattle.std.proofs.Common.{rules, ◌≡◌, ◌<◌, ◌^◌, subst, ℕ, length, Ok, refl}
use Rattle.std.proofs.lemmas.Result.{err_from_is_err_and}
use Rattle.xcdr_model.specs.Numbers.{number}
use Rattle.xcdr_model.specs.Reading.{octets_at, ◌>>=◌}
use Rattle.xt_wire.specs.cursor.Steps.{digits_at}
use Rattle.xt_wire.specs.cursor.Standing.{Standing}
use Rattle.xt_wire.proofs.OfCursor.Ahead.{Ahead, begins, goes_on, fails, ends}
use Rattle.xt_wire.proofs.cursor.reading.read_few.Goals as goal

starts : (k l : ℕ) (a : Standing) → l ≡ k → Ahead (digits_at k) (λ o s. octets_at l s >>= λ y. Ok (number o y.0, y.1)) a a
unfolding digits_at
starts k l a e = begins (digits_at k) _ a (λ s. rw e refl)

pub returns-in_err-read_octets : goal.returns-in_err-read_octets
returns-in_err-read_octets g c =
    let p = err_from_is_err_and c.from_residual.result c.from_residual.ensures.1 in
    let into = c.read_octets.new.into in
    let full : length into ≡ g.row.N = search rules in
    rw (p.1, p.2) (record { below = tt; value = fails (λ u. into) (λ n. n) (λ o s. octets_at (length into) s) (λ y o s. Ok (number o y, s)) (starts g.row.N (length into) (g.C.Cursor.state c.args.cursor.now) full) c.in_err-read_octets.ensures })

pub returns : goal.returns
returns g c =
    let into = c.read_octets.new.into in
    let full : length into ≡ g.row.N = search rules in
    let u = goes_on (λ u. into) (λ o s. octets_at (length into) s) (λ y o s. Ok (number o y, s)) (starts g.row.N (length into) (g.C.Cursor.state c.args.cursor.now) full) c.in_ok-read_octets.ensures in
    record {
      below = subst (λ (n : ℕ). c.number.result < 256 ^ n) full c.number.ensures.below;
      value = ends (λ n. n) (λ o. number o into) u (rw (c.number.ensures.value, c.order.ensures, u.within.order) refl);
    }
