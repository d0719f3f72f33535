-- Members in order: the parts that are read are those of the projection.
use Rattle.std.proofs.Common.{◌≡◌, ℕ, Bool, true, false, cond, List, [], ◌∷◌, ◌++◌, refl, sym, ap, ap₂, ◌∙◌, ◌==◌}
use Rattle.std.proofs.lemmas.Bool.{eqb-false, eq-eqb, ne_eqb, or_parts}
use Rattle.xt_shapes.specs.declared.leaves.Order.{Order}
use Rattle.xt_shapes.specs.Select.{has_member}
use Rattle.xt_shapes.specs.Shape.{Head, Shape, Members, no_members, member}
use Rattle.xt_shapes.specs.Vals.{Val, Slots, Slot, absent, present, first, others}
use Rattle.xcdr_model.specs.Projection.{Part, projected, projected_members, part_at, with_shape, with_part}
use Rattle.xcdr_model.specs.Reading.{Spot, Reading, number_at}
use Rattle.xcdr_model.specs.Spelling.{IsNumber}
use Rattle.xcdr_model.specs.Xcdr2Reading.{optional_at}
use Rattle.xcdr_model.specs.Xcdr2Spelling.{slot_of}
use Rattle.shape_laws.proofs.Steps.{Reads, then_ok, reads_number, at_one, at_two, reads_done}

-- the part of one slot
abbrev pub slot_part : ℕ → (Val → Part) → Slot → List (ℕ × Part)
slot_part id g absent = []
slot_part id g (present w) = (id, g w) ∷ []

pub reads_slot : (opt : Bool) (o : Order) (id : ℕ) (f : Spot → Reading Part) (P : Val → ℕ → List ℕ → Type 0) (g : Val → Part) (s : Slot) → ((w : Val) → Reads f (P w) (g w)) → Reads (optional_at opt o id f) (slot_of opt o P s) (slot_part id g s)
unfolding optional_at
reads_slot false o id f P g absent r p b rest h = absurd h
reads_slot false o id f P g (present w) r p b rest h = reads_done (λ (x : Part). (id, x) ∷ []) f (P w) (g w) (r w) p b rest h
reads_slot true o id f P g absent r p b rest h = then_ok _ (then_ok _ (reads_number 4 o 1 0 p b rest h) (then_ok _ refl refl)) refl
reads_slot true o id f P g (present w) r p b rest h =
    then_ok _ (then_ok _ (at_one (number_at 4 o 1) (IsNumber 4 o 1 1) (P w) 1 (reads_number 4 o 1 1) p b rest h) (then_ok _ refl refl))
    (then_ok _ (at_two f (IsNumber 4 o 1 1) (P w) (g w) (r w) p b rest h) refl)

-- ---- the projection of members that stand alike

other_id : (a b : ℕ) → (a == b) ≡ false → (b == a) ≡ false
other_id a b e = ne_eqb b a (λ (d : b ≡ a). eqb-false a b e (sym d))

-- a writer's member that the reader lacks has no part
pub skip_member : (ms : Members) (h2 : Head) (t2 : Shape) (ms2 : Members) (ss : Slots) → has_member ms h2.id ≡ false → projected_members ms (member h2 t2 ms2) ss ≡ projected_members ms ms2 (others ss)
unfolding projected_members
skip_member no_members h2 t2 ms2 ss e = refl
skip_member (member h t ms) h2 t2 ms2 ss e =
    let e0 : (h2.id == h.id) ≡ false = other_id h.id h2.id (or_parts _ _ e).0 in
    ap₂ (with_part h.id (λ t2 w. projected t t2 w)) (ap (λ (b : Bool). cond b (with_shape t2 (first ss)) (part_at ms2 (others ss) h.id)) e0) (skip_member ms h2 t2 ms2 ss (or_parts _ _ e).1)

slot_is : (h : Head) (t t2 : Shape) (s : Slot) (parts : List (ℕ × Part)) → with_part h.id (λ t2 w. projected t t2 w) (with_shape t2 s) parts ≡ slot_part h.id (λ w. projected t t2 w) s ++ parts
slot_is h t t2 absent parts = refl
slot_is h t t2 (present w) parts = refl

pub projected_next : (h h2 : Head) (t t2 : Shape) (ms ms2 : Members) (ss : Slots) → h.id ≡ h2.id → has_member ms h2.id ≡ false → projected_members (member h t ms) (member h2 t2 ms2) ss ≡ slot_part h.id (λ w. projected t t2 w) (first ss) ++ projected_members ms ms2 (others ss)
unfolding projected_members
projected_next h h2 t t2 ms ms2 ss e d =
    let e0 : (h2.id == h.id) ≡ true = eq-eqb h2.id h.id (sym e) in
    ap₂ (with_part h.id (λ t2 w. projected t t2 w)) (ap (λ (b : Bool). cond b (with_shape t2 (first ss)) (part_at ms2 (others ss) h.id)) e0) (skip_member ms h2 t2 ms2 ss d)
    ∙ slot_is h t t2 (first ss) (projected_members ms ms2 (others ss))

pub projected_none : (ms : Members) (ss : Slots) → projected_members ms no_members ss ≡ []
unfolding projected_members
projected_none no_members ss = refl
projected_none (member h t ms) ss = projected_none ms ss
