-- Values as plain trees: a structure has one slot for each member in declared order, a union the number of its discriminator (DDS-XTypes 1.3, 7.2.2).
use Rattle.std.specs.Prelude.{ℕ, ℤ, pos, List, [], ◌∷◌}

mutual
  pub data Val : Type 0 where
    int : ℤ → Val
    text : List ℕ → Val
    listed : Vals → Val
    mapped : Pairs → Val
    struct_of : Slots → Val
    union_of : ℤ → Slot → Val

  pub data Vals : Type 0 where
    no_vals : Vals
    one_val : Val → Vals → Vals

  pub data Pairs : Type 0 where
    no_pairs : Pairs
    one_pair : Val → Val → Pairs → Pairs

  pub data Slots : Type 0 where
    no_slots : Slots
    one_slot : Slot → Slots → Slots

  pub data Slot : Type 0 where
    absent : Slot
    present : Val → Slot

-- ---- the parts of a value, as lists

abbrev pub vals_of : List Val → Vals
vals_of [] = no_vals
vals_of (v ∷ vs) = one_val v (vals_of vs)

abbrev pub each_val : Vals → List Val
each_val no_vals = []
each_val (one_val v vs) = v ∷ each_val vs

abbrev pub pairs_of : List (Val × Val) → Pairs
pairs_of [] = no_pairs
pairs_of (x ∷ xs) = one_pair x.0 x.1 (pairs_of xs)

abbrev pub each_pair : Pairs → List (Val × Val)
each_pair no_pairs = []
each_pair (one_pair k v ps) = (k, v) ∷ each_pair ps

abbrev pub slots_of : List Slot → Slots
slots_of [] = no_slots
slots_of (s ∷ ss) = one_slot s (slots_of ss)

abbrev pub each_slot : Slots → List Slot
each_slot no_slots = []
each_slot (one_slot s ss) = s ∷ each_slot ss

-- ---- the parts of a value of a kind; of another kind, none

abbrev pub number_in : Val → ℤ
number_in (int i) = i
number_in _ = pos 0

abbrev pub octets_in : Val → List ℕ
octets_in (text t) = t
octets_in _ = []

abbrev pub items_in : Val → List Val
items_in (listed vs) = each_val vs
items_in _ = []

abbrev pub entries_in : Val → List (Val × Val)
entries_in (mapped ps) = each_pair ps
entries_in _ = []

abbrev pub slots_in : Val → Slots
slots_in (struct_of ss) = ss
slots_in _ = no_slots

abbrev pub disc_in : Val → ℤ
disc_in (union_of d s) = d
disc_in _ = pos 0

abbrev pub body_in : Val → Slot
body_in (union_of d s) = s
body_in _ = absent

abbrev pub first : Slots → Slot
first no_slots = absent
first (one_slot s ss) = s

abbrev pub others : Slots → Slots
others no_slots = no_slots
others (one_slot s ss) = ss
