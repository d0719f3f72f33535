use Rattle.std.proofs.Common.{arith, refl, ◌-◌, eq-eqb}
use Rattle.std.proofs.lemmas.Bool.{ne_eqb}
use Rattle.std.proofs.lemmas.Result.{err_from_is_err_and}
use Rattle.xcdr_model.specs.declared.malformed.Why.TheVariants.{Str}
use Rattle.xcdr_model.specs.Reading.{fault_at}
use Rattle.xt_wire.specs.cursor.Steps.{placed_at}
use Rattle.xt_wire.specs.cursor.Placing.{placed_view}
use Rattle.xt_wire.proofs.OfCursor.Ahead.{goes_on, fails, last, rephrased, malformed}
use Rattle.xcdr_steps.specs.scalars.Texts.{counted_text}
use Rattle.xcdr_steps.proofs.OfScalars.TextSteps.{text_starts, text_behind}
use Rattle.xcdr_steps.proofs.scalars.texts.read_text.Goals as goal

pub returns-in_err-count : goal.returns-in_err-count
returns-in_err-count g c =
    let a = g.C.Cursor.state c.args.cursor.now in
    let p = err_from_is_err_and c.from_residual.result c.from_residual.ensures.1 in
    rw (p.1, p.2) (fails (placed_view a) (λ v. v.items) (placed_at 4 4) text_behind (text_starts a) c.in_err-count.ensures.value)

pub returns-then-count-eq0 : goal.returns-then-count-eq0
returns-then-count-eq0 g c =
    let a = g.C.Cursor.state c.args.cursor.now in
    let n = c.in_ok-count.count in
    let d = c.in_ok-count.ensures in
    let u = goes_on (placed_view a) (placed_at 4 4) text_behind (text_starts a) d.value in
    let w = rephrased (text_behind (placed_view a n)) (λ o s. fault_at (n.at - a.origin) Str) u (λ xs e. rw (eq-eqb n.number 0 c.if-count-eq0.true) refl) in
    malformed (λ v. v.items) (λ s. n.at - a.origin) Str w (λ xs. omega (arith, d.at, d.value.within.origin))

pub returns : goal.returns
returns g c =
    let a = g.C.Cursor.state c.args.cursor.now in
    let n = c.in_ok-count.count in
    let d = c.in_ok-count.ensures in
    let u = goes_on (placed_view a) (placed_at 4 4) text_behind (text_starts a) d.value in
    let w = rephrased (text_behind (placed_view a n)) (counted_text (placed_view a n)) u (λ xs e. rw (ne_eqb n.number 0 c.if-count-eq0.false) refl) in
    last (λ v. v.items) (counted_text (placed_view a n)) w (rw (← d.value.within.origin) c.read_counted.ensures)
