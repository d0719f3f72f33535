-- One slot more.
use Rattle.std.proofs.Common.{◌≡◌, refl, ap, Bool, true, false, cond, List, [], ◌∷◌, ◌++◌, Option, Some, None, map, set, is_some, ℕ}
use Rattle.std.specs.Option.{option_map}
use Rattle.std.proofs.lemmas.List.{map-append, map-set}
use Rattle.xt_shapes.specs.Vals.{Slot as Body}
use Rattle.type_trees.specs.declared.values.Slot.{Slot}
use Rattle.type_trees.specs.View.{body_val}
use Rattle.xcdr_model.specs.Projection.{both}
use Rattle.try_construct.specs.Members.{slot_set}

pub kept_slot : (failed : Bool) (slots : List Slot) (s : Slot) → cond failed None (Some (map body_val (slots ++ s ∷ []))) ≡ both (λ bs b. bs ++ b ∷ []) (cond failed None (Some (map body_val slots))) (Some (body_val s))
kept_slot true slots s = refl
kept_slot false slots s = ap (λ l. Some l) (map-append body_val slots (s ∷ []))

pub lost_slot : (o : Option (List Body)) → both (λ bs b. bs ++ b ∷ []) o None ≡ None
lost_slot None = refl
lost_slot (Some bs) = refl

-- ---- by the index of the member

abbrev slots_or_none : Bool → List (Option Slot) → Option (List (Option Body))
slots_or_none failed slots = cond failed None (Some (map (option_map body_val) slots))

pub put_some : (failed : Bool) (slots : List (Option Slot)) (i : ℕ) (s : Slot) → slots_or_none failed (set slots i (Some s)) ≡ both (slot_set i) (slots_or_none failed slots) (Some (body_val s))
put_some true slots i s = refl
put_some false slots i s = ap (λ l. Some l) (map-set (option_map body_val) slots i (Some s))

pub put_none : (i : ℕ) (o : Option (List (Option Body))) → both (slot_set i) o None ≡ None
put_none i None = refl
put_none i (Some bs) = refl

pub put_come : (slots : List (Option Slot)) (i : ℕ) (s : Slot) → map is_some (set slots i (Some s)) ≡ set (map is_some slots) i true
put_come slots i s = map-set is_some slots i (Some s)

pub ruleset slot_rules = (kept_slot, lost_slot)

pub ruleset put_rules = (put_some, put_none, put_come)
