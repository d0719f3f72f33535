-- Keys: when a reader's key type keeps the writer's keys apart, and the key of a value (DDS-XTypes 1.3, 7.2.2.4.4 and 7.6.8; `key_fit` is this profile's own).
use Rattle.std.specs.Prelude.{ℕ, List, [], ◌∷◌, Bool, true, false, cond, not, map, nat_lt, ◌==◌, ◌&&◌, ◌||◌}
use Rattle.xt_shapes.specs.Keyable.{any_key, counted}
use Rattle.xt_shapes.specs.Kinds.{same_prim, same_ext, as_prim, as_str, as_enum, as_mask, as_sequence, as_array, as_structure}
use Rattle.xt_shapes.specs.Lists.{has, all, is_some_and}
use Rattle.xt_shapes.specs.NodeRules.{is_discard}
use Rattle.xt_shapes.specs.Select.{shape_at}
use Rattle.xt_shapes.specs.Shape.{Shape, prim, str, enumeration, bitmask, sequence, array, map_of, structure, union, Members, no_members, member, heads}
use Rattle.xt_shapes.specs.Vals.{Val, int, struct_of, Slots, no_slots, one_slot, Slot, absent, present, slots_in, disc_in, first, others}
use Rattle.xcdr_model.specs.Equivalence.{same_dims}
use Rattle.xcdr_model.specs.Rules.{values_within, holds_bound}

-- ---- counted members: the key members, or all where none is a key

-- whether a counted member has that id
abbrev pub counts_id : Bool → Members → ℕ → Bool
counts_id keyed ms id = has (λ h. counted keyed h && (h.id == id)) (heads ms)

abbrev pub counted_within : Bool → Members → Bool → Members → Bool
counted_within keyed ms other ns = all (λ h. not (counted keyed h) || counts_id other ns h.id) (heads ms)

-- the same ids of counted members
abbrev pub same_counted : Bool → Members → Bool → Members → Bool
same_counted keyed ms other ns = counted_within keyed ms other ns && counted_within other ns keyed ms

-- ---- key types that fit

abbrev pub is_structure : Shape → Bool
is_structure t = is_some_and (as_structure t) (λ x. true)

abbrev mutual
  pub key_fit : Shape → Shape → Bool
  key_fit (prim p) u = is_some_and (as_prim u) (λ q. same_prim p q)
  key_fit (str a) u = is_some_and (as_str u) (λ b. holds_bound a b)
  key_fit (enumeration e bits ls) u = is_some_and (as_enum u) (λ x. (bits == x.1) && values_within x.2 ls)
  key_fit (bitmask bits fs) u = is_some_and (as_mask u) (λ x. bits == x.0)
  key_fit (sequence a tc t) u = is_some_and (as_sequence u) (λ x. holds_bound a x.0 && key_fit t x.2)
  key_fit (array ds tc t) u = is_some_and (as_array u) (λ x. same_dims ds x.0 && key_fit t x.2)
  key_fit (map_of b kc k vc t) u = false
  key_fit (structure e ms) u = is_some_and (as_structure u) (λ x. same_ext e x.0 && (same_counted (any_key ms) ms (any_key x.1) x.1 && keys_fit (any_key ms) ms x.1))
  key_fit (union e k d cs) u = false

  -- each counted member; a counted structure is set to Discard
  pub keys_fit : Bool → Members → Members → Bool
  keys_fit keyed no_members ns = true
  keys_fit keyed (member h t ms) ns = (not (counted keyed h) || ((not (is_structure t) || is_discard h.tc) && is_some_and (shape_at ns h.id) (λ u. key_fit t u))) && keys_fit keyed ms ns

-- ---- the key of a value

-- put in by rising id
abbrev pub by_id : {A : Type 0} → ℕ × A → List (ℕ × A) → List (ℕ × A)
by_id x [] = x ∷ []
by_id x (y ∷ ys) = cond (nat_lt x.0 y.0) (x ∷ y ∷ ys) (y ∷ by_id x ys)

abbrev pub of_present : Slot → (Val → ℕ × Val) → List (ℕ × Val) → List (ℕ × Val)
of_present absent f ps = ps
of_present (present w) f ps = by_id (f w) ps

abbrev pub all_present : List Val → Slots
all_present [] = no_slots
all_present (v ∷ vs) = one_slot (present v) (all_present vs)

-- a nested structure's part is the list of its counted members' parts; any other part is its value
abbrev mutual
  pub key_part : Shape → Val → Val
  key_part (prim p) v = v
  key_part (str b) v = v
  key_part (enumeration e bits ls) v = v
  key_part (bitmask bits fs) v = v
  key_part (sequence b tc t) v = v
  key_part (array ds tc t) v = v
  key_part (map_of b kc k vc t) v = v
  key_part (structure e ms) v = struct_of (all_present (map (λ x. x.1) (key_parts (any_key ms) ms (slots_in v))))
  key_part (union e k d cs) v = v

  -- by rising id
  pub key_parts : Bool → Members → Slots → List (ℕ × Val)
  key_parts keyed no_members ss = []
  key_parts keyed (member h t ms) ss = cond (counted keyed h) (of_present (first ss) (λ w. (h.id, key_part t w)) (key_parts keyed ms (others ss))) (key_parts keyed ms (others ss))

-- of a top type
abbrev pub key : Shape → Val → List Val
key (structure e ms) v = map (λ x. x.1) (key_parts true ms (slots_in v))
key (union e true d cs) v = int (disc_in v) ∷ []
key (union e false d cs) v = []
key _ v = []
