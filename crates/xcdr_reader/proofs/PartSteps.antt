-- A value in its own region, and what is read inside.
use Rattle.std.proofs.Common.{◌≡◌, refl, sym, ap, ◌∙◌, subst, ℕ, Bool, true, false, ◌&&◌, Ok, Err, Result}
use Rattle.xt_shapes.specs.declared.leaves.Order.{Order}
use Rattle.xt_shapes.specs.Shape.{Shape}
use Rattle.xcdr_model.specs.Premises.{sound}
use Rattle.xcdr_model.specs.Reading.{Spot, Reading}
use Rattle.xcdr_model.specs.Projection as model
use Rattle.xt_wire.specs.declared.cursor.cursor.Outer.{Outer}
use Rattle.xt_wire.specs.declared.cursor.faults.DecodeFault.{DecodeFault}
use Rattle.xt_wire.specs.declared.cursor.frames.Framing.{Framing}
use Rattle.xt_wire.specs.cursor.Standing.{Standing, Stands, room}
use Rattle.xt_wire.specs.cursor.Decoding.{Decodes, spot}
use Rattle.xt_wire.specs.cursor.Frames.{framed, Opened, OpenFails, Closes}
use Rattle.xt_wire.proofs.OfCursor.Ahead.{begins, last, rephrased, decodes_as, room_is}
use Rattle.xt_wire.proofs.OfCursor.Regions.{frame_unopened, frame_fails, frame_closes, frame_stops}
use Rattle.settled_parts.specs.declared.part.Part.{Part}
use Rattle.settled_parts.specs.Parts.{part_of}
use Rattle.xcdr_reader.specs.declared.modes.Mode.{Mode}
use Rattle.xcdr_reader.specs.Modes.{read_in, content_in, framing_in, fills}
use Rattle.xcdr_reader.specs.Insides.{inside}
use Rattle.xcdr_reader.specs.Parts.{whole_read}
use Rattle.xcdr_reader.proofs.Readings.{read_is}

abbrev value_at : Mode → Shape → Order → Spot → Reading model.Part
value_at m t o s = read_in m o t s

whole : (m : Mode) (t : Shape) {a b : Standing} {r : Result Part DecodeFault} → sound t ≡ true → Decodes part_of (framed (framing_in m t) (inside m t)) a b r → Decodes part_of (value_at m t) a b r
whole m t {a} ok d = decodes_as part_of (value_at m t) (framed (framing_in m t) (inside m t)) (λ s. read_is m t a.order s ok) d

pub unopened : (m : Mode) (t : Shape) (fr : Framing) (a b : Standing) (e : DecodeFault) → sound t ≡ true → fr ≡ framing_in m t → OpenFails fr a b e → Decodes {T = Part} part_of (value_at m t) a b (Err e)
unopened m t fr a b e ok is x = whole m t ok (frame_unopened (framing_in m t) part_of (inside m t) a b e (subst (λ (f : Framing). OpenFails f a b e) is x))

pub inside_fails : (m : Mode) (t : Shape) (fr : Framing) (outer : Outer) (a b c : Standing) (e : DecodeFault) → sound t ≡ true → fr ≡ framing_in m t → Opened fr a b outer → Decodes {T = Part} part_of (inside m t) b c (Err e) → Decodes {T = Part} part_of (value_at m t) a c (Err e)
inside_fails m t fr outer a b c e ok is x d = whole m t ok (frame_fails (framing_in m t) part_of (inside m t) a b c outer e (subst (λ (f : Framing). Opened f a b outer) is x) d)

pub closed : (m : Mode) (t : Shape) (fr : Framing) (outer : Outer) (a b c d : Standing) (p : Part) → sound t ≡ true → fr ≡ framing_in m t → Stands c → Opened fr a b outer → Decodes part_of (inside m t) b c (Ok p) → Closes fr outer c d (Ok tt) → Decodes part_of (value_at m t) a d (Ok p)
closed m t fr outer a b c d p ok is st x r l = whole m t ok (frame_closes {t = p} (framing_in m t) part_of (inside m t) a b c d outer st (subst (λ (f : Framing). Opened f a b outer) is x) r (subst (λ (f : Framing). Closes f outer c d (Ok tt)) is l))

pub not_closed : (m : Mode) (t : Shape) (fr : Framing) (outer : Outer) (a b c d : Standing) (p : Part) (e : DecodeFault) → sound t ≡ true → fr ≡ framing_in m t → Stands c → Opened fr a b outer → Decodes part_of (inside m t) b c (Ok p) → Closes fr outer c d (Err e) → Decodes {T = Part} part_of (value_at m t) a d (Err e)
not_closed m t fr outer a b c d p e ok is st x r l = whole m t ok (frame_stops {t = p} (framing_in m t) part_of (inside m t) a b c d outer e st (subst (λ (f : Framing). Opened f a b outer) is x) r (subst (λ (f : Framing). Closes f outer c d (Err e)) is l))

-- a case's value: all that is left of the region, where it is filled
pub rest_filled : (m : Mode) (filled : Bool) (t : Shape) (n : ℕ) {a b : Standing} {r : Result Part DecodeFault} → Stands a → (filled && fills m) ≡ true → n ≡ room a → Decodes part_of (content_in m n t) a b r → Decodes part_of (whole_read m filled t) a b r
rest_filled m filled t n {a} st all e d = last part_of (content_in m n t) (rephrased (whole_read m filled t) (content_in m n t) (begins (whole_read m filled t) (whole_read m filled t) a (λ s. refl)) (λ xs is. rw all (ap (λ (k : ℕ). content_in m k t a.order (spot a xs)) (room_is xs st is ∙ sym e)))) d

pub own_whole : (m : Mode) (filled : Bool) (t : Shape) {a b : Standing} {r : Result Part DecodeFault} → (filled && fills m) ≡ false → Decodes part_of (value_at m t) a b r → Decodes part_of (whole_read m filled t) a b r
own_whole m filled t {a} none d = decodes_as part_of (whole_read m filled t) (value_at m t) (λ s. rw none refl) d
