use Rattle.std.proofs.Common.{refl}
use Rattle.std.proofs.lemmas.Result.{err_from_is_err_and}
use Rattle.xcdr_model.specs.Reading.{◌>>=◌}
use Rattle.xt_wire.specs.cursor.Standing.{Standing}
use Rattle.xt_wire.proofs.OfCursor.Ahead.{Ahead, begins, goes_on, fails, last}
use Rattle.xcdr_steps.specs.reading.Headings.{next_view}
use Rattle.xcdr_steps.specs.one.Marks.{marked_view, marked_at}
use Rattle.xcdr_steps.specs.one.Parameters.{parameter_of, parameter_at}
use Rattle.xcdr_steps.proofs.OfOne.ParameterSteps.{same_origin}
use Rattle.xcdr_steps.proofs.one.parameters.read_parameter.Goals as goal

starts : (a : Standing) → Ahead parameter_at (λ o s. marked_at o s >>= λ x. parameter_of x.0 o x.1) a a
starts a = begins parameter_at _ a (λ s. refl)

pub returns-in_err-header-clause-value : goal.returns-in_err-header-clause-value
returns-in_err-header-clause-value g c =
    let a = g.C.Cursor.state c.args.cursor.now in
    let p = err_from_is_err_and c.from_residual.result c.from_residual.ensures.1 in
    rw (p.1, p.2) (fails (marked_view a) (next_view a) marked_at parameter_of (starts a) c.in_err-header.ensures.value)

pub returns-clause-value : goal.returns-clause-value
returns-clause-value g c =
    let a = g.C.Cursor.state c.args.cursor.now in
    let b = g.C.Cursor.state c.read_mark.new.cursor in
    let u = goes_on (marked_view a) marked_at parameter_of (starts a) c.in_ok-header.ensures.value in
    last (next_view a) (parameter_of (marked_view a c.in_ok-header.header)) u (same_origin a b c.in_ok-header.header _ u.within.origin c.heading_of.ensures.value)
