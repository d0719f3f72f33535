use Rattle.std.proofs.Common.{refl, sym, ap, ℕ, ◌-◌, max, Ok}
use Rattle.std.proofs.lemmas.Result.{err_from_is_err_and}
use Rattle.xt_wire.proofs.OfCursor.Ahead.{goes_on, fails, ends}
use Rattle.xt_shapes.specs.declared.leaves.Order.{Order}
use Rattle.xcdr_model.specs.Reading.{Spot, Reading}
use Rattle.xcdr_steps.specs.reading.Headings.{Told, Next, header_view, next_view, ended, told}
use Rattle.xcdr_steps.specs.two.Headers.{header_at}
use Rattle.xcdr_steps.proofs.OfAgain.Unheld.{settled}
use Rattle.xcdr_steps.proofs.OfTwo.HeaderSteps.{next_none, next_some}
use Rattle.xcdr_steps.proofs.two.headers.next_header.Goals as goal

abbrev some_header : Told → Order → Spot → Reading Next
some_header h o s = Ok (told h, s)

pub returns-then-has_padding_alone-clause-value : goal.returns-then-has_padding_alone-clause-value
returns-then-has_padding_alone-clause-value g c =
    let b = g.C.Cursor.state c.has_padding_alone.new.cursor in
    settled b.reach b (ends (next_view (g.C.Cursor.state c.args.cursor.now)) (λ o. ended) (next_none (g.met.C.Cursor.stands c.args.cursor.now) c.if-has_padding_alone.ensures.stayed c.if-has_padding_alone.ensures.ended) refl)

pub returns-in_err-header-clause-value : goal.returns-in_err-header-clause-value
returns-in_err-header-clause-value g c =
    let a = g.C.Cursor.state c.args.cursor.now in
    let b = g.C.Cursor.state c.has_padding_alone.new.cursor in
    let h = g.C.Cursor.state c.read_header.new.cursor in
    let u = next_some (g.met.C.Cursor.stands c.args.cursor.now) c.if-has_padding_alone.ensures.stayed c.if-has_padding_alone.ensures.ended in
    let p = err_from_is_err_and c.from_residual.result c.from_residual.ensures.1 in
    rw (p.1, p.2) (settled (max b.reach h.place) h (fails (header_view b) (next_view a) header_at some_header u c.in_err-header.ensures.value))

pub returns-clause-value : goal.returns-clause-value
returns-clause-value g c =
    let a = g.C.Cursor.state c.args.cursor.now in
    let b = g.C.Cursor.state c.has_padding_alone.new.cursor in
    let h = g.C.Cursor.state c.read_header.new.cursor in
    let u = next_some (g.met.C.Cursor.stands c.args.cursor.now) c.if-has_padding_alone.ensures.stayed c.if-has_padding_alone.ensures.ended in
    let v = goes_on (header_view b) header_at some_header u c.in_ok-header.ensures.value in
    settled (max b.reach h.place) h (ends (next_view a) (λ o. told (header_view b c.in_ok-header.header)) v (ap (λ (k : ℕ). told (record { at = c.in_ok-header.header.at - k; id = c.in_ok-header.header.id; must = c.in_ok-header.header.must; size = c.in_ok-header.header.length })) (sym c.if-has_padding_alone.ensures.stayed.within.origin)))
