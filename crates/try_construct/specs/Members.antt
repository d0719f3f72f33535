-- The slots of a structure, gathered as they come: in declared order, or by the index of the member (DDS-XTypes 1.3, 7.2.2.7; the steps are own).
use Rattle.std.specs.Prelude.{ℕ, zero, suc, Bool, true, false, cond, ◌||◌, List, [], ◌∷◌, ◌++◌, Option, Some, None, map, set, is_some}
use Rattle.std.specs.Option.{option_map}
use Rattle.xt_shapes.specs.Shape.{Head, Shape, Members, no_members, member}
use Rattle.xt_shapes.specs.Vals.{Slot as Body, Slots, no_slots, one_slot, struct_of, slots_of as slots_from}
use Rattle.type_trees.specs.View.{body_val}
use Rattle.xcdr_model.specs.Projection.{Built, Part, both, within, slot_default, slot_from, built_at, any_unseen}
use Rattle.try_construct.specs.declared.members.Slots as declared
use Rattle.try_construct.specs.declared.members.MemberSlots.{MemberSlots}

-- the slots so far, none where one failed, and whether something that must be understood is unseen
abbrev pub slots_of : declared.Slots → Option (List Body) × Bool
slots_of g = (cond g.failed None (Some (map body_val g.slots)), g.unseen)

abbrev pub and_slot : Option (List Body) × Bool → Option Body × Bool → Option (List Body) × Bool
and_slot g x = (both (λ bs b. bs ++ b ∷ []) g.0 x.0, g.1 || x.1)

abbrev pub structure_of : Option (List Body) × Bool → Part
structure_of g = (within false (option_map (λ bs. struct_of (slots_from bs)) g.0), g.1)

-- what came of a member, if anything came
abbrev pub built_in : Option Part → Option Built
built_in None = None
built_in (Some x) = Some x.0

abbrev pub unseen_in : Option Part → Bool
unseen_in None = false
unseen_in (Some x) = x.1

-- the structure of the slots so far and of the members that are still to come, of each of which a part may come
abbrev pub slots_then : Members → Option (List Body) × Bool → List (Option Part) → Part
slots_then no_members g xs = structure_of g
slots_then (member h t ms) g [] = slots_then ms (and_slot g (slot_from h t None, false)) []
slots_then (member h t ms) g (x ∷ xs) = slots_then ms (and_slot g (slot_from h t (built_in x), unseen_in x)) xs

-- the parts that came, each under the id of its member
abbrev pub parts_by_id : Members → List (Option Part) → List (ℕ × Part)
parts_by_id no_members xs = []
parts_by_id (member h t ms) [] = []
parts_by_id (member h t ms) (None ∷ xs) = parts_by_id ms xs
parts_by_id (member h t ms) (Some x ∷ xs) = (h.id, x) ∷ parts_by_id ms xs

-- ---- by the index of the member

-- the slots of the members that came, none where one failed; which have come; and whether something is unseen
abbrev pub by_member : MemberSlots → Option (List (Option Body)) × List Bool × Bool
by_member m = (cond m.failed None (Some (map (option_map body_val) m.slots.items)), map is_some m.slots.items, m.unseen)

abbrev pub slot_set : ℕ → List (Option Body) → Body → List (Option Body)
slot_set i bs b = set bs i (Some b)

abbrev pub and_slot_at : Option (List (Option Body)) × List Bool × Bool → ℕ → Option Body × Bool → Option (List (Option Body)) × List Bool × Bool
and_slot_at g i x = (both (slot_set i) g.0 x.0, set g.1 i true, g.2 || x.1)

abbrev pub slot_or : Body → Option Body → Body
slot_or d None = d
slot_or d (Some b) = b

-- the slot of the next member, and those behind it
abbrev pub next_slot : List (Option Body) → Option Body
next_slot [] = None
next_slot (b ∷ bs) = b

abbrev pub later_slots : List (Option Body) → List (Option Body)
later_slots [] = []
later_slots (b ∷ bs) = bs

-- a member that has not come has its default
abbrev pub slots_filled : Members → List (Option Body) → Slots
slots_filled no_members bs = no_slots
slots_filled (member h t ms) bs = one_slot (slot_or (slot_default h t) (next_slot bs)) (slots_filled ms (later_slots bs))

-- the structure of the slots so far and of those that came of the other members
abbrev pub filled_then : Members → Option (List Body) × Bool → List (Option Body) → Part
filled_then no_members g bs = structure_of g
filled_then (member h t ms) g bs = filled_then ms (and_slot g (Some (slot_or (slot_default h t) (next_slot bs)), false)) (later_slots bs)

abbrev pub filled_of : Members → Option (List (Option Body)) × List Bool × Bool → Part
filled_of ms g = (within false (option_map (λ bs. struct_of (slots_filled ms bs)) g.0), g.2)

-- the slot of each member by the parts that came under their ids
abbrev pub slot_so_far : Head → Shape → Option Built → Option (Option Body)
slot_so_far h t None = Some None
slot_so_far h t (Some b) = option_map Some (slot_from h t (Some b))

abbrev pub slots_so_far : Members → List (ℕ × Part) → Option (List (Option Body))
slots_so_far no_members ps = Some []
slots_so_far (member h t ms) ps = both (λ b bs. b ∷ bs) (slot_so_far h t (built_at ps h.id)) (slots_so_far ms ps)

abbrev pub have_come : Members → List (ℕ × Part) → List Bool
have_come no_members ps = []
have_come (member h t ms) ps = is_some (built_at ps h.id) ∷ have_come ms ps

abbrev pub so_far : Members → List (ℕ × Part) → Option (List (Option Body)) × List Bool × Bool
so_far ms ps = (slots_so_far ms ps, have_come ms ps, any_unseen ps)

-- the member with that index
abbrev pub at_index : Members → ℕ → Option (Head × Shape)
at_index no_members i = None
at_index (member h t ms) zero = Some (h, t)
at_index (member h t ms) (suc i) = at_index ms i
