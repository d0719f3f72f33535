-- The value that names reach through structures (this profile's own).
use Rattle.std.specs.Prelude.{ℕ, List, [], ◌∷◌, Bool, cond, Option, Some, None, bytes_eq}
use Rattle.type_trees.specs.Trees.{Tree, prim, str, enumeration, bitmask, sequence, array, map_of, structure, union, alias, Members, no_members, member}
use Rattle.xt_shapes.specs.Vals.{Val, struct_of, Slot as Body, absent, present, Slots, no_slots, one_slot}
use Rattle.json_values.specs.Names.{name_text}

abbrev pub body_at : (Val → Option Val) → Body → Option Val
body_at f absent = None
body_at f (present v) = f v

abbrev pub slot_at : Bool → (Val → Option Val) → (Slots → Option Val) → Slots → Option Val
slot_at named f g no_slots = None
slot_at named f g (one_slot b ss) = cond named (body_at f b) (g ss)

abbrev pub slots_at : (Slots → Option Val) → Val → Option Val
slots_at f (struct_of ss) = f ss
slots_at f _ = None

-- with no name left the value is reached
abbrev pub step : (List ℕ → List (List ℕ) → Val → Option Val) → List (List ℕ) → Val → Option Val
step f [] v = Some v
step f (n ∷ ns) v = f n ns v

abbrev pub no_step : List ℕ → List (List ℕ) → Val → Option Val
no_step n ns v = None

abbrev mutual
  pub reached : Tree → List (List ℕ) → Val → Option Val
  reached (prim p) ns v = step no_step ns v
  reached (str bound) ns v = step no_step ns v
  reached (enumeration name ext bits literals) ns v = step no_step ns v
  reached (bitmask name bits flags) ns v = step no_step ns v
  reached (sequence bound tc t) ns v = step no_step ns v
  reached (array dims tc t) ns v = step no_step ns v
  reached (map_of bound kc k vc t) ns v = step no_step ns v
  reached (structure head ms) ns v = step (λ n rest w. slots_at (member_reached ms n rest) w) ns v
  reached (union head disc cs) ns v = step no_step ns v
  reached (alias name t) ns v = reached t ns v

  -- the first member of that name
  pub member_reached : Members → List ℕ → List (List ℕ) → Slots → Option Val
  member_reached no_members n ns ss = None
  member_reached (member head t ms) n ns ss = slot_at (bytes_eq (name_text head.name) n) (reached t ns) (member_reached ms n ns) ss
