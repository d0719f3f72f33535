use Rattle.std.proofs.Common.{◌≡◌, ℕ, Ok, refl, true, false, ◌==◌, eq-eqb}
use Rattle.std.proofs.lemmas.Bool.{ne_eqb}
use Rattle.std.proofs.lemmas.Result.{err_from_is_err_and}
use Rattle.xt_shapes.specs.declared.leaves.Order.{Order}
use Rattle.xcdr_model.specs.Reading.{Spot, Reading, ◌>>=◌}
use Rattle.xt_wire.specs.cursor.Standing.{Standing}
use Rattle.xt_wire.proofs.OfCursor.Ahead.{Ahead, begins, goes_on, fails, ends}
use Rattle.xcdr_steps.specs.one.Own.{own_length}
use Rattle.xcdr_reader.specs.declared.comings.Coming.{Coming}
use Rattle.xcdr_reader.specs.Comings.{by_length, own_read}
use Rattle.xcdr_reader.proofs.comings.read_header.Goals as goal

abbrev made : ℕ → Order → Spot → Reading Coming
made n o s = Ok (by_length n, s)

starts : (id : ℕ) (a : Standing) → Ahead (own_read id) (λ o s. own_length id o s >>= λ n. made n.0 o n.1) a a
starts id a = begins (own_read id) _ a (λ s. refl)

pub returns-in_err-length-clause-value : goal.returns-in_err-length-clause-value
returns-in_err-length-clause-value g c =
    let p = err_from_is_err_and c.from_residual.result c.from_residual.ensures.1 in
    rw (p.1, p.2) (fails (λ n. n) (λ x. x) (own_length c.args.id) made (starts c.args.id (g.C.Cursor.state c.args.cursor.now)) c.in_err-length.ensures.value)

pub returns-then-length-eq0-clause-value : goal.returns-then-length-eq0-clause-value
returns-then-length-eq0-clause-value g c =
    let n = c.in_ok-length.length in
    let u = goes_on (λ n. n) (own_length c.args.id) made (starts c.args.id (g.C.Cursor.state c.args.cursor.now)) c.in_ok-length.ensures.value in
    let none : (n == 0) ≡ true = eq-eqb n 0 c.if-length-eq0.true in
    ends (λ x. x) (λ o. by_length n) u (rw none refl)

pub returns-clause-value : goal.returns-clause-value
returns-clause-value g c =
    let n = c.in_ok-length.length in
    let u = goes_on (λ n. n) (own_length c.args.id) made (starts c.args.id (g.C.Cursor.state c.args.cursor.now)) c.in_ok-length.ensures.value in
    let some : (n == 0) ≡ false = ne_eqb n 0 c.if-length-eq0.false in
    ends (λ x. x) (λ o. by_length n) u (rw some refl)
