use Rattle.std.proofs.Common.{refl, subst, ℕ, ◌-◌, ◌≡◌, Result}
use Rattle.std.proofs.lemmas.Result.{err_from_is_err_and}
use Rattle.xt_wire.specs.declared.cursor.faults.DecodeFault.{DecodeFault}
use Rattle.xcdr_model.specs.Reading.{◌>>=◌}
use Rattle.xt_wire.specs.cursor.Standing.{Standing}
use Rattle.xt_wire.specs.cursor.Decoding.{Decodes}
use Rattle.xt_wire.proofs.OfCursor.Ahead.{Ahead, begins, goes_on, fails, last}
use Rattle.xcdr_steps.specs.declared.one.marks.Marked.{Marked}
use Rattle.xcdr_steps.specs.one.Marks.{mark_view, marked_view, marked_at}
use Rattle.xcdr_steps.specs.one.Own.{own_checked, own_length}
use Rattle.xcdr_steps.proofs.one.own.read_own.Goals as goal

starts : (id : ℕ) (a : Standing) → Ahead (own_length id) (λ o s. marked_at o s >>= λ x. own_checked id x.0 o x.1) a a
starts id a = begins (own_length id) _ a (λ s. refl)

same_origin : (id : ℕ) (a b : Standing) (h : Marked) (r : Result ℕ DecodeFault) → b.origin ≡ a.origin → Decodes {T = ℕ} (λ n. n) (own_checked id (marked_view b h)) b b r → Decodes {T = ℕ} (λ n. n) (own_checked id (marked_view a h)) b b r
same_origin id a b h r e d = subst (λ (k : ℕ). Decodes {T = ℕ} (λ n. n) (own_checked id (h.at - k, mark_view h.mark)) b b r) e d

pub returns-in_err-header-clause-value : goal.returns-in_err-header-clause-value
returns-in_err-header-clause-value g c =
    let a = g.C.Cursor.state c.args.cursor.now in
    let p = err_from_is_err_and c.from_residual.result c.from_residual.ensures.1 in
    rw (p.1, p.2) (fails (marked_view a) (λ n. n) marked_at (own_checked c.args.id) (starts c.args.id a) c.in_err-header.ensures.value)

pub returns-clause-value : goal.returns-clause-value
returns-clause-value g c =
    let a = g.C.Cursor.state c.args.cursor.now in
    let b = g.C.Cursor.state c.read_mark.new.cursor in
    let u = goes_on (marked_view a) marked_at (own_checked c.args.id) (starts c.args.id a) c.in_ok-header.ensures.value in
    last (λ n. n) (own_checked c.args.id (marked_view a c.in_ok-header.header)) u (same_origin c.args.id a b c.in_ok-header.header _ u.within.origin c.checked_own.ensures.value)
