use Rattle.std.proofs.Common.{refl}
use Rattle.std.proofs.lemmas.Result.{err_from_is_err_and}
use Rattle.xt_wire.proofs.OfCursor.Ahead.{goes_on, fails, ends}
use Rattle.xcdr_steps.specs.one.Marks.{mark_view, marked_view, opening_view, opening_at, behind_opening}
use Rattle.xcdr_steps.proofs.OfOne.MarkSteps.{placed_form, with_place, marked_starts, same_place}
use Rattle.xcdr_steps.proofs.one.marks.read_mark.Goals as goal

pub returns-in_err-opening-clause-value : goal.returns-in_err-opening-clause-value
returns-in_err-opening-clause-value g c =
    let a = g.C.Cursor.state c.args.cursor.now in
    let p = err_from_is_err_and c.from_residual.result c.from_residual.ensures.1 in
    rw (p.1, p.2) (fails (opening_view a) (marked_view a) opening_at placed_form (marked_starts a) c.in_err-opening.ensures.value)

pub returns-in_err-mark-clause-value : goal.returns-in_err-mark-clause-value
returns-in_err-mark-clause-value g c =
    let a = g.C.Cursor.state c.args.cursor.now in
    let b = g.C.Cursor.state c.read_opening.new.cursor in
    let v = opening_view a c.in_ok-opening.opening in
    let u = goes_on (opening_view a) opening_at placed_form (marked_starts a) c.in_ok-opening.ensures.value in
    let p = err_from_is_err_and c.from_residual-in_err-mark.result c.from_residual-in_err-mark.ensures.1 in
    rw (p.1, p.2) (fails mark_view (marked_view a) (behind_opening v) (with_place v.0) u (same_place a b _ c.in_ok-opening.opening _ u.within.origin c.in_err-mark.ensures))

pub returns-clause-value : goal.returns-clause-value
returns-clause-value g c =
    let a = g.C.Cursor.state c.args.cursor.now in
    let b = g.C.Cursor.state c.read_opening.new.cursor in
    let v = opening_view a c.in_ok-opening.opening in
    let u = goes_on (opening_view a) opening_at placed_form (marked_starts a) c.in_ok-opening.ensures.value in
    let w = goes_on mark_view (behind_opening v) (with_place v.0) u (same_place a b _ c.in_ok-opening.opening _ u.within.origin c.in_ok-mark.ensures) in
    ends (marked_view a) (λ o. (v.0, mark_view c.in_ok-mark.mark)) w refl
