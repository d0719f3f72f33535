use Rattle.std.proofs.Common.{arith, Ok, refl, ℕ, ◌-◌, List}
use Rattle.std.proofs.lemmas.Result.{err_from_is_err_and}
use Rattle.xt_shapes.specs.declared.leaves.Order.{Order}
use Rattle.xcdr_model.specs.Reading.{Spot, Reading, ◌>>=◌, octets_at}
use Rattle.xt_wire.specs.cursor.Steps.{align_at}
use Rattle.xt_wire.specs.cursor.Standing.{Standing}
use Rattle.xt_wire.specs.cursor.Decoding.{Decodes}
use Rattle.xt_wire.proofs.OfCursor.Ahead.{Ahead, begins, goes_on, fails, ends, rephrased}
use Rattle.xcdr_steps.specs.one.Marks.{opening_at, opening_view}
use Rattle.xcdr_steps.proofs.OfOne.MarkSteps.{at_block, opening_parts}
use Rattle.xcdr_steps.proofs.one.marks.read_opening.Goals as goal

octets_after : Unit {0} → Order → Spot → Reading (ℕ × List ℕ)
octets_after u o s = octets_at 4 s >>= at_block s.at

with_place : ℕ → List ℕ → Order → Spot → Reading (ℕ × List ℕ)
with_place p h o s = at_block p (h, s)

starts : (a : Standing) → Ahead opening_at (λ o s. align_at 4 o s >>= λ x. octets_after x.0 o x.1) a a
unfolding octets_after
starts a = begins opening_at _ a (λ s. opening_parts a.order s)

aligned : (a b : Standing) → Decodes {T = Unit {0}} (λ u. u) (align_at 4) a b (Ok tt) → Ahead opening_at (λ o s. octets_at 4 s >>= λ h. with_place (b.place - b.origin) h.0 o h.1) a b
unfolding octets_after with_place
aligned a b d = rephrased (octets_after tt) (λ o s. octets_at 4 s >>= λ h. with_place (b.place - b.origin) h.0 o h.1) (goes_on (λ u. u) (align_at 4) octets_after (starts a) d) (λ xs is. refl)

pub returns-in_err-read_align : goal.returns-in_err-read_align
returns-in_err-read_align g c =
    let p = err_from_is_err_and c.from_residual.result c.from_residual.ensures.1 in
    rw (p.1, p.2) (record { at = tt; value = fails (λ u. u) (opening_view (g.C.Cursor.state c.args.cursor.now)) (align_at 4) octets_after (starts (g.C.Cursor.state c.args.cursor.now)) c.in_err-read_align.ensures })

pub returns-in_err-read_octets : goal.returns-in_err-read_octets
returns-in_err-read_octets g c =
    let p = err_from_is_err_and c.from_residual-in_err-read_octets.result c.from_residual-in_err-read_octets.ensures.1 in
    let b = g.C.Cursor.state c.read_align.new.cursor in
    let u = aligned (g.C.Cursor.state c.args.cursor.now) b c.in_ok-read_align.ensures in
    rw (p.1, p.2) (record { at = tt; value = fails (λ u. c.read_octets.new.into) (opening_view (g.C.Cursor.state c.args.cursor.now)) (λ o s. octets_at 4 s) (with_place (b.place - b.origin)) u (rw c.read_octets.auto.into at c.in_err-read_octets.ensures) })

pub returns-clause-value : goal.returns-clause-value
unfolding with_place
returns-clause-value g c =
    let b = g.C.Cursor.state c.read_align.new.cursor in
    let u = aligned (g.C.Cursor.state c.args.cursor.now) b c.in_ok-read_align.ensures in
    let v = goes_on (λ u. c.read_octets.new.into) (λ o s. octets_at 4 s) (with_place (b.place - b.origin)) u (rw c.read_octets.auto.into at c.in_ok-read_octets.ensures) in
    ends (opening_view (g.C.Cursor.state c.args.cursor.now)) (λ o. (b.place - b.origin, c.read_octets.new.into)) v (rw (c.place-at.ensures, ← c.in_ok-read_align.ensures.within.origin) refl)

pub returns-clause-at : goal.returns-clause-at
returns-clause-at g c =
    let st = g.met.C.Cursor.stands c.read_align.new.cursor in
    omega (arith, c.place-at.ensures, st.from_origin, c.in_ok-read_align.ensures.within.origin)
