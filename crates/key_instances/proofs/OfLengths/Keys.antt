-- Keys are short exactly where each has at most 16 octets.
use Rattle.std.proofs.Common.{◌≡◌, ℕ, ◌+◌, ◌≤◌, ◌<◌, Bool, true, false, ◌&&◌, length, map, Option, Some, None, nat_le, refl, sym, ap, subst, ◌∙◌, inl, inr, arith}
use Rattle.std.proofs.lemmas.Bool.{cases_lt, both_ways, leb-true, le-leb}
use Rattle.xt_shapes.specs.declared.leaves.Ext.{Ext}
use Rattle.xt_shapes.specs.declared.leaves.Order.TheVariants.{Big}
use Rattle.xt_shapes.specs.Defaults.{default_of}
use Rattle.xt_shapes.specs.Keyable.{counted_keyable}
use Rattle.xt_shapes.specs.Kinds.{is_number}
use Rattle.xt_shapes.specs.NodeRules.{rules_hold, keys_discard}
use Rattle.xt_shapes.specs.Shape.{Shape, prim, str, enumeration, bitmask, sequence, array, map_of, structure, union, Members, Cases, heads}
use Rattle.xt_shapes.specs.Typing.{has_type, have_types}
use Rattle.xt_shapes.specs.Vals.{Val, int, slots_in, disc_in}
use Rattle.xcdr_model.specs.FixedSpelling.{nothing, fixed, members_fixed}
use Rattle.xcdr_model.specs.KeyOctets.{and_on, members_from, key_types, key_octets, end_of, end_of_members, within_hash, short}
use Rattle.xcdr_model.specs.Keys.{all_present, key_parts}
use Rattle.xcdr_model.specs.Premises.{storable, cases_storable}
use Rattle.xcdr_model.proofs.FromRules.{storable_from, keys_from, default_typed}
use Rattle.shape_laws.proofs.KeyTypes.{aligned_types, aligned_parts}
use Rattle.shape_laws.proofs.Rules.{left}
use Rattle.shape_laws.proofs.Self.{struct_is}
use Rattle.shape_laws.proofs.KeySort.{Entries}
use Rattle.key_instances.specs.octets.Laws.{ShortKeysFit, HasLongKey, OthersHaveLongKeys}
use Rattle.key_instances.proofs.OfLengths.Flat.{flat_types}
use Rattle.key_instances.proofs.OfLengths.Bounded.{members_bounded}
use Rattle.key_instances.proofs.OfLengths.Longest.{longest, longest_slots, longest_typed, longest_parts, all_longest}
use Rattle.key_instances.proofs.OfLengths.Reached.{Reached, then_reaches, members_reach, numeral_reaches}

-- ---- a place and what is told of it

fits : (o : Option ℕ) (place : ℕ) → within_hash o ≡ true → ((n : ℕ) → o ≡ Some n → place ≤ n) → place ≤ 16
fits None place s h = absurd cc
fits (Some n) place s h = omega (arith, leb-true n 16 s, h n refl)

reached_fits : (o : Option ℕ) (place : ℕ) → within_hash o ≡ true → Reached o place → place ≤ 16
reached_fits None place s h = absurd cc
reached_fits (Some n) place s h = omega (arith, leb-true n 16 s, h)

is_long : (o : Option ℕ) (place : ℕ) → within_hash o ≡ false → Reached o place → 16 < place
is_long None place s h = omega (arith, h)
is_long (Some n) place s h = elim (cases_lt 16 n) [
  | inl more ↦ omega (arith, more, h)
  | inr less ↦ absurd (both_ways (nat_le n 16) s (le-leb n 16 (omega (arith, less))))
]

from_start : (o : Option ℕ) (n : ℕ) → Reached o (0 + n) → Reached o n
from_start o n h = subst (λ k. Reached o k) (let same : 0 + n ≡ n = omega arith in same) h

-- ---- a structure

structure_fits : (e : Ext) (ms : Members) (v : Val) → counted_keyable true ms ≡ true → short (structure e ms) ≡ true → has_type (structure e ms) v ≡ true → length (key_octets (structure e ms) v) ≤ 16
unfolding fixed has_type
structure_fits e ms v k s h =
    let x = struct_is v (λ ss. have_types ms ss) h in
    let xs = key_types true ms in
    let ys = key_parts true ms (slots_in v) in
    let typed = aligned_types xs ys (aligned_parts true ms k (slots_in v) (ap (λ (z : Val). have_types ms (slots_in z)) x.1 ∙ x.2)) in
    fits (end_of_members (members_from xs) 0) (length (key_octets (structure e ms) v)) s (λ n is. omega (arith, members_bounded (members_from xs) (flat_types true ms k) (all_present (map (λ y. y.1) ys)) typed 0 0 n (omega arith) is))

structure_long : (e : Ext) (ms : Members) → rules_hold (structure e ms) ≡ true → counted_keyable true ms ≡ true → short (structure e ms) ≡ false → HasLongKey (structure e ms)
unfolding fixed
structure_long e ms r k s =
    let xs = key_types true ms in
    let is : all_present (map (λ y. y.1) (key_parts true ms (longest_slots ms))) ≡ longest_slots (members_from xs) = ap (λ (ys : Entries Val). all_present (map (λ y. y.1) ys)) (longest_parts true ms) ∙ all_longest xs in
    let far = is_long (end_of_members (members_from xs) 0) (length (members_fixed Big (members_from xs) (longest_slots (members_from xs)) 0)) s (from_start _ _ (members_reach (members_from xs) (flat_types true ms k) 0)) in
    (longest (structure e ms), longest_typed default_typed (structure e ms) r, subst (λ ss. 16 < length (members_fixed Big (members_from xs) ss 0)) (sym is) far)

-- ---- a union, whose key is its discriminator

union_reached : (e : Ext) (d : Shape) (cs : Cases) (v : Val) → is_number d ≡ true → Reached (and_on (end_of d 0) (λ q. Some q)) (length (key_octets (union e true d cs) v))
unfolding fixed members_fixed
union_reached e d cs v n = from_start (and_on (end_of d 0) (λ q. Some q)) (length (key_octets (union e true d cs) v)) (then_reaches (fixed Big d (int (disc_in v))) nothing (λ p. end_of d p) (λ q. Some q) (λ p. numeral_reaches d n (int (disc_in v)) p) (λ p. omega arith) 0)

disc_number : (e : Ext) (key : Bool) (d : Shape) (cs : Cases) → rules_hold (union e key d cs) ≡ true → is_number d ≡ true
disc_number e key d cs r = left (is_number d) (storable d) (left (is_number d && storable d) (cases_storable cs) (storable_from (union e key d cs) r))

-- ---- any type

members_keyable : (e : Ext) (ms : Members) → rules_hold (structure e ms) ≡ true → counted_keyable true ms ≡ true
members_keyable e ms r = left (counted_keyable true ms) (keys_discard (heads ms)) (keys_from (structure e ms) r)

pub short_keys_fit : ShortKeysFit
unfolding fixed members_fixed
short_keys_fit (structure e ms) v r s h = structure_fits e ms v (members_keyable e ms r) s h
short_keys_fit (union e true d cs) v r s h = reached_fits (and_on (end_of d 0) (λ q. Some q)) (length (key_octets (union e true d cs) v)) s (union_reached e d cs v (disc_number e true d cs r))
short_keys_fit (union e false d cs) v r s h = omega arith
short_keys_fit (prim p) v r s h = omega arith
short_keys_fit (str bound) v r s h = omega arith
short_keys_fit (enumeration e bits ls) v r s h = omega arith
short_keys_fit (bitmask bits fs) v r s h = omega arith
short_keys_fit (sequence bound tc t) v r s h = omega arith
short_keys_fit (array dims tc t) v r s h = omega arith
short_keys_fit (map_of bound kc k vc t) v r s h = omega arith

pub others_have_long_keys : OthersHaveLongKeys
others_have_long_keys (structure e ms) r s = structure_long e ms r (members_keyable e ms r) s
others_have_long_keys (union e true d cs) r s =
    let t = union e true d cs in
    (default_of t, default_typed t r, is_long (and_on (end_of d 0) (λ q. Some q)) (length (key_octets t (default_of t))) s (union_reached e d cs (default_of t) (disc_number e true d cs r)))
others_have_long_keys (union e false d cs) r s = absurd cc
others_have_long_keys (prim p) r s = absurd cc
others_have_long_keys (str bound) r s = absurd cc
others_have_long_keys (enumeration e bits ls) r s = absurd cc
others_have_long_keys (bitmask bits fs) r s = absurd cc
others_have_long_keys (sequence bound tc t) r s = absurd cc
others_have_long_keys (array dims tc t) r s = absurd cc
others_have_long_keys (map_of bound kc k vc t) r s = absurd cc
