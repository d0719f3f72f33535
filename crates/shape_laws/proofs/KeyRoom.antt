-- How many octets a key may take, as a measure of values, and the same of what a reader builds.
use Rattle.std.proofs.Common.{◌≡◌, ℕ, zero, suc, ◌+◌, ◌-◌, ◌*◌, ◌≤◌, ℤ, Bool, true, false, cond, not, ◌||◌, ◌&&◌, List, [], ◌∷◌, length, take, replicate, Option, Some, None, refl, ap, arith, ◌==◌}
use Rattle.std.proofs.lemmas.Bool.{and_parts}
use Rattle.std.proofs.lemmas.List.{length-take}
use Rattle.std.specs.Option.{option_map}
use Rattle.xt_shapes.specs.declared.leaves.Try.{Try}
use Rattle.xt_shapes.specs.Defaults.{default_of, default_slots}
use Rattle.xt_shapes.specs.Keyable.{any_key, counted, is_leaf, keyable, counted_keyable}
use Rattle.xt_shapes.specs.Shape.{Head, Shape, prim, str, enumeration, bitmask, sequence, array, map_of, structure, union, Members, no_members, member, product}
use Rattle.xt_shapes.specs.Typing.{is_past}
use Rattle.xt_shapes.specs.Vals.{Val, int, text, struct_of, Slots, one_slot, Slot, absent, present, vals_of, each_val, octets_in, items_in, slots_in, first, others}
use Rattle.xt_shapes.specs.Weight.{weight, weights}
use Rattle.xcdr_model.specs.Premises.{distinct_members}
use Rattle.xcdr_model.specs.Projection.{Built, got, failed, Part, kept, within, gather_text, gather_items, slot_default, slot_from, gather_slots, gather_members, built_at}
use Rattle.shape_laws.proofs.KeyAt.{needs}
use Rattle.shape_laws.proofs.NodesBuilt.{built_measure, weigh, sum_by, within_measure, items_measure, both_parts}
use Rattle.shape_laws.proofs.NodesParts.{slot_measure, settled_slot}
use Rattle.shape_laws.proofs.PartCosts.{Measure, ByMember, total_parts, measure_at, part_measure, sum_of, sum_parts}

-- octets with all padding; a collection has its count, and may have one of its octets
abbrev mutual
  pub room : Shape → Val → ℕ
  room (prim p) v = 11
  room (str bound) v = 8 + length (octets_in v)
  room (enumeration e bits ls) v = 11
  room (bitmask bits fs) v = 11
  room (sequence bound tc t) v = 14 + sum_by (λ w. room t w) (items_in v)
  room (array dims tc t) v = 7 + sum_by (λ w. room t w) (items_in v)
  room (map_of bound kc k vc t) v = 0
  room (structure e ms) v = counted_room (any_key ms) ms (slots_in v)
  room (union e key d cs) v = 0

  pub counted_room : Bool → Members → Slots → ℕ
  counted_room keyed no_members ss = 0
  counted_room keyed (member h t ms) ss = cond (counted keyed h) (slot_measure (λ w. room t w) (first ss)) 0 + counted_room keyed ms (others ss)

abbrev pub built_room : Shape → Built → ℕ
built_room t b = built_measure (λ w. room t w) b

-- ---- leaves

pub leaf_weight : (t : Shape) → is_leaf t ≡ true → weight t ≡ 1
leaf_weight (prim p) l = refl
leaf_weight (str bound) l = refl
leaf_weight (enumeration e bits ls) l = refl
leaf_weight (bitmask bits fs) l = refl
leaf_weight (sequence bound tc t) l = absurd cc
leaf_weight (array dims tc t) l = absurd cc
leaf_weight (map_of bound kc k vc t) l = absurd cc
leaf_weight (structure e ms) l = absurd cc
leaf_weight (union e key d cs) l = absurd cc

pub leaf_default : (t : Shape) → is_leaf t ≡ true → room t (default_of t) ≤ 11
leaf_default (prim p) l = omega arith
leaf_default (str bound) l = omega arith
leaf_default (enumeration e bits ls) l = omega arith
leaf_default (bitmask bits fs) l = omega arith
leaf_default (sequence bound tc t) l = absurd cc
leaf_default (array dims tc t) l = absurd cc
leaf_default (map_of bound kc k vc t) l = absurd cc
leaf_default (structure e ms) l = absurd cc
leaf_default (union e key d cs) l = absurd cc

-- ---- defaults

many : (m : Val → ℕ) (n : ℕ) (v : Val) → m v ≤ 11 → sum_by m (each_val (vals_of (replicate n v))) ≤ n * 11
many m zero v h = omega arith
many m (suc n) v h = omega (arith, h, many m n v h)

default_slot : (m : Val → ℕ) (o : Bool) (v : Val) (w : ℕ) → m v ≤ w → slot_measure m (cond o absent (present v)) ≤ w
default_slot m true v w h = omega arith
default_slot m false v w h = h

counted_or : (c : Bool) (a n w : ℕ) → (c ≡ true → a ≤ w) → n ≤ w → cond c a 0 ≤ w
counted_or true a n w f g = f refl
counted_or false a n w f g = omega arith

mutual
  pub default_room : (t : Shape) → keyable t ≡ true → room t (default_of t) ≤ 16 * weight t
  default_room (prim p) k = omega arith
  default_room (str bound) k = omega arith
  default_room (enumeration e bits ls) k = omega arith
  default_room (bitmask bits fs) k = omega arith
  default_room (sequence bound tc t) k = omega arith
  default_room (array dims tc t) k =
      let one : product dims * weight t ≡ product dims * 1 = ap (λ (w : ℕ). product dims * w) (leaf_weight t k) in
      omega (arith, one, many (λ w. room t w) (product dims) (default_of t) (leaf_default t k))
  default_room (map_of bound kc j vc t) k = absurd cc
  default_room (structure e ms) k = omega (arith, defaults_room (any_key ms) ms k)
  default_room (union e key d cs) k = absurd cc

  defaults_room : (keyed : Bool) (ms : Members) → counted_keyable keyed ms ≡ true → counted_room keyed ms (default_slots ms) ≤ 16 * weights ms
  defaults_room keyed no_members k = omega arith
  defaults_room keyed (member h t ms) k =
      let p = and_parts (not (counted keyed h) || (not h.optional && keyable t)) (counted_keyable keyed ms) k in
      let one = counted_or (counted keyed h) (slot_measure (λ w. room t w) (cond h.optional absent (present (default_of t)))) 0 (16 * weight t)
      (λ c. default_slot (λ w. room t w) h.optional (default_of t) (16 * weight t) (default_room t (needs (counted keyed h) h.optional (keyable t) p.0 c).1)) (omega arith) in
      omega (arith, one, defaults_room keyed ms p.1)

-- ---- what is gathered

pub text_room : (bound : ℕ) (t : List ℕ) → built_room (str bound) (gather_text bound t) ≤ 8 + length t
text_room bound t = omega (arith, within_measure (λ w. room (str bound) w) (is_past bound (length t)) (text (kept bound t)), shorter (bound == 0))
  where
    shorter : (c : Bool) → length (cond c t (take bound t)) ≤ length t
    shorter true = omega arith
    shorter false = omega (arith, length-take bound t)

pub number_room : (e : Shape) (c : Bool) (i : ℤ) → ((v : Val) → room e v ≤ 11) → built_room e (cond c (got (int i)) failed) ≤ 11
number_room e true i f = f (int i)
number_room e false i f = omega arith

back : (vs : List Val) → each_val (vals_of vs) ≡ vs
back [] = refl
back (v ∷ vs) = ap (λ (xs : List Val). v ∷ xs) (back vs)

pub sequence_room : (bound b : ℕ) (tc c : Try) (t : Shape) (bs : List Built) → is_leaf t ≡ true → built_room (sequence bound c t) (gather_items b tc (default_of t) bs) ≤ 14 + weigh (λ w. room t w) 11 bs
sequence_room bound b tc c t bs l = items_measure (λ w. room (sequence bound c t) w) (λ w. room t w) 14 b tc (default_of t) 11 bs (leaf_default t l) (λ vs. omega (arith, ap (sum_by (λ w. room t w)) (back vs)))

pub array_room : (dims : List ℕ) (b : ℕ) (tc c : Try) (t : Shape) (bs : List Built) → is_leaf t ≡ true → built_room (array dims c t) (gather_items b tc (default_of t) bs) ≤ 7 + weigh (λ w. room t w) 11 bs
array_room dims b tc c t bs l = items_measure (λ w. room (array dims c t) w) (λ w. room t w) 7 b tc (default_of t) 11 bs (leaf_default t l) (λ vs. omega (arith, ap (sum_by (λ w. room t w)) (back vs)))

-- what a counted part has beyond 16 octets for each node of its type's weight, eight times
abbrev pub beyond : Bool → ByMember
beyond keyed h t b = cond (counted keyed h) (8 * (built_room t b - 16 * weight t)) 0

abbrev pub beyond_at : Bool → Members → Measure
beyond_at keyed ms = measure_at (beyond keyed) ms

slot_room : (h : Head) (t : Shape) (o : Option Built) (s : Slot) → keyable t ≡ true → slot_from h t o ≡ Some s → 8 * slot_measure (λ w. room t w) s ≤ 128 * weight t + part_measure (λ b. 8 * (built_room t b - 16 * weight t)) o
slot_room h t None s k e = (let z : slot_default h t ≡ s = cc in omega (arith, ap (slot_measure (λ w. room t w)) z, default_slot (λ w. room t w) h.optional (default_of t) (16 * weight t) (default_room t k)))
slot_room h t (Some b) s k e = omega (arith, settled_slot (λ w. room t w) h.tc (slot_default h t) b s (16 * weight t) (default_slot (λ w. room t w) h.optional (default_of t) (16 * weight t) (default_room t k)) e)

one_room : (c : Bool) (h : Head) (t : Shape) (o : Option Built) (s : Slot) → (c ≡ true → keyable t ≡ true) → slot_from h t o ≡ Some s → 8 * cond c (slot_measure (λ w. room t w) s) 0 ≤ 128 * weight t + part_measure (λ b. cond c (8 * (built_room t b - 16 * weight t)) 0) o
one_room true h t o s k e = slot_room h t o s (k refl) e
one_room false h t o s k e = omega arith

slots_room : (keyed : Bool) (ms : Members) (f : ℕ → Option Built) (ss : Slots) → counted_keyable keyed ms ≡ true → gather_slots ms f ≡ Some ss → 8 * counted_room keyed ms ss ≤ 128 * weights ms + sum_of (beyond keyed) ms f
slots_room keyed no_members f ss k e = omega arith
slots_room keyed (member h t ms) f ss k e =
    let z = both_parts one_slot (slot_from h t (f h.id)) (gather_slots ms f) ss e in
    let p = and_parts (not (counted keyed h) || (not h.optional && keyable t)) (counted_keyable keyed ms) k in
    omega (arith, ap (counted_room keyed (member h t ms)) z.4, one_room (counted keyed h) h t (f h.id) z.0 (λ c. (needs (counted keyed h) h.optional (keyable t) p.0 c).1) z.2, slots_room keyed ms f z.1 p.1 z.3)

-- a structure of which the counted members are `keyed`
abbrev pub keyed_room : Bool → Members → Built → ℕ
keyed_room keyed ms b = built_measure (λ v. counted_room keyed ms (slots_in v)) b

pub structure_room : (keyed : Bool) (ms : Members) (xs : List (ℕ × Part)) → distinct_members ms ≡ true → counted_keyable keyed ms ≡ true → 8 * keyed_room keyed ms (gather_members ms (built_at xs)) ≤ 128 * weights ms + total_parts (beyond_at keyed ms) xs
structure_room keyed ms xs d k = by_slots (gather_slots ms (built_at xs)) refl
  where
    by_slots : (o : Option Slots) → gather_slots ms (built_at xs) ≡ o → 8 * keyed_room keyed ms (within false (option_map struct_of o)) ≤ 128 * weights ms + total_parts (beyond_at keyed ms) xs
    by_slots None e = omega arith
    by_slots (Some ss) e = omega (arith, slots_room keyed ms (built_at xs) ss k e, sum_parts (beyond keyed) ms xs d)
