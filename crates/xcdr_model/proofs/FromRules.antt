-- Where the rules of valid types hold at every node, so does all that the laws ask of a type, and its default has it.
use Rattle.std.proofs.Common.{◌≡◌, ℕ, zero, suc, ◌^◌, ◌<◌, ◌≤◌, ℤ, pos, negsuc, Bool, true, false, cond, not, ◌||◌, ◌&&◌, List, [], ◌∷◌, ◌++◌, map, length, replicate, Option, Some, None, refl, sym, ap, ap₂, ◌∙◌, inl, inr, arith, nat_lt, nat_le, ◌==◌}
use Rattle.std.proofs.lemmas.Bool.{cases_Bool, and_parts, and_from, or_cases, or_left, or_right, eqb-true, eqb-false, eq-eqb, ne_eqb, not-true, both_ways, false_from_ne_true, lt-ltb, ltb-true, ltb-false, le-ltb, leb-true}
use Rattle.std.proofs.lemmas.Bool.Decides.{Decides-int_eq}
use Rattle.std.proofs.lemmas.Nat.{pow_pos}
use Rattle.std.proofs.lemmas.List.{length-replicate}
use Rattle.std.proofs.Math.Pow.{pow_mono}
use Rattle.std.proofs.Math.Nat.{mul-pos}
use Rattle.std.specs.Prelude.{nat_eq}
use Rattle.std.specs.Ordering.{int_eq}
use Rattle.xt_shapes.specs.declared.leaves.Ext.{Ext}
use Rattle.xt_shapes.specs.declared.leaves.Ext.TheVariants.{Final, Appendable, Mutable}
use Rattle.xt_shapes.specs.declared.leaves.Primitive.{Primitive}
use Rattle.xt_shapes.specs.declared.leaves.Primitive.TheVariants.{Boolean, Byte, Int8, Uint8, Int16, Uint16, Int32, Uint32, Int64, Uint64, Float32, Float64, Char8}
use Rattle.xt_shapes.specs.Defaults.{marked, first_value, int_or, by_label, default_of, default_slots, default_union}
use Rattle.xt_shapes.specs.Keyable.{counted_keyable}
use Rattle.xt_shapes.specs.Kinds.{is_number}
use Rattle.xt_shapes.specs.Lists.{has, all, or_else}
use Rattle.xt_shapes.specs.NodeRules.{hashes_apart, not_empty, distinct, not_mutable, value_fits, enum_fits, mask_fits, dims_fit, is_discriminator, labels_of, keys_discard, is_light, structure_fits, union_fits, rules_hold, members_hold, cases_hold}
use Rattle.xt_shapes.specs.Select.{has_member, is_literal, labelled, default_case, select}
use Rattle.xt_shapes.specs.Shape.{Literal, Flag, Shape, prim, str, enumeration, bitmask, sequence, array, map_of, structure, union, Members, no_members, member, Cases, no_cases, one_case, heads, case_heads, product}
use Rattle.xt_shapes.specs.Sizes.{enum_size}
use Rattle.xt_shapes.specs.Typing.{in_range, is_below, of_prim, is_past, of_slot, of_body, has_type, have_types, case_type}
use Rattle.xt_shapes.specs.Vals.{Val, int, union_of, absent, present, vals_of, each_val}
use Rattle.xcdr_model.specs.Projection.{is_mutable}
use Rattle.xcdr_model.specs.Premises.{some_member, distinct_members, sound, sound_members, sound_cases, storable, members_storable, cases_storable, has_case, cases_apart, in_members_apart, in_cases_apart, light, light_members, light_cases, own_default, defaults_typed, member_defaults, case_defaults, keys_sound, premises_hold}

left : (a b : Bool) → (a && b) ≡ true → a ≡ true
left a b e = (and_parts a b e).0

right : (a b : Bool) → (a && b) ≡ true → b ≡ true
right a b e = (and_parts a b e).1

-- ---- the parts of the rules at structures and unions

pub record Structured (ms : Members) : Type 0 where
  pub apart : distinct nat_eq (map (λ h. h.id) (heads ms)) ≡ true
  pub low : all (λ n. nat_lt n 268435455) (map (λ h. h.id) (heads ms)) ≡ true
  pub some : not_empty (heads ms) ≡ true
  pub keyable : counted_keyable true ms ≡ true
  pub discard : keys_discard (heads ms) ≡ true

structured : (ms : Members) → structure_fits ms ≡ true → Structured ms
structured ms e =
    let p = and_parts _ _ e in
    let ids = and_parts _ _ (and_parts _ _ p.0).1 in
    let q = and_parts _ _ p.1 in
    let k = and_parts _ _ q.1 in
    record { apart = ids.1; low = ids.0; some = q.0; keyable = k.0; discard = k.1 }

pub record United (ext : Ext) (disc : Shape) (cs : Cases) : Type 0 where
  pub apart : distinct nat_eq (map (λ h. h.id) (case_heads cs)) ≡ true
  pub fixed : not_mutable ext ≡ true
  pub disc_fits : is_discriminator disc ≡ true
  pub labels_typed : all (λ d. has_type disc (int d)) (labels_of (case_heads cs)) ≡ true
  pub labelled : not_empty (labels_of (case_heads cs)) ≡ true

united : (ext : Ext) (disc : Shape) (cs : Cases) → union_fits ext disc cs ≡ true → United ext disc cs
united ext disc cs e =
    let p = and_parts _ _ e in
    let ids = and_parts _ _ (and_parts _ _ p.0).1 in
    let q = and_parts _ _ p.1 in
    let r = and_parts _ _ q.1 in
    let s = and_parts _ _ r.1 in
    let l = and_parts _ _ s.1 in
    let t = and_parts _ _ l.0 in
    let u = and_parts _ _ l.1 in
    let w = and_parts _ _ u.1 in
    record { apart = ids.1; fixed = r.0; disc_fits = s.0; labels_typed = t.1; labelled = w.1 }

-- ---- ids

turned : (a b : ℕ) → nat_eq a b ≡ (b == a)
turned a b = elim (cases_Bool (a == b)) [
  | inl y ↦ y ∙ sym (eq-eqb b a (sym (eqb-true a b y)))
  | inr n ↦ n ∙ sym (ne_eqb b a (λ z. eqb-false a b n (sym z)))
]

id_in : (ms : Members) (n : ℕ) → has (nat_eq n) (map (λ h. h.id) (heads ms)) ≡ has_member ms n
id_in no_members n = refl
id_in (member h t ms) n = ap₂ (λ (a b : Bool). a || b) (turned n h.id) (id_in ms n)

ids_distinct : (ms : Members) → distinct nat_eq (map (λ h. h.id) (heads ms)) ≡ true → distinct_members ms ≡ true
ids_distinct no_members e = refl
ids_distinct (member h t ms) e =
    let p = and_parts (not (has (nat_eq h.id) (map (λ x. x.id) (heads ms)))) (distinct nat_eq (map (λ x. x.id) (heads ms))) e in
    and_from (not (has_member ms h.id)) (distinct_members ms) (ap not (sym (id_in ms h.id)) ∙ p.0) (ids_distinct ms p.1)

case_in : (cs : Cases) (n : ℕ) → has (nat_eq n) (map (λ h. h.id) (case_heads cs)) ≡ has_case cs n
case_in no_cases n = refl
case_in (one_case h t cs) n = ap₂ (λ (a b : Bool). a || b) (turned n h.id) (case_in cs n)

not_empty_some : (ms : Members) → not_empty (heads ms) ≡ true → some_member ms ≡ true
not_empty_some no_members e = absurd cc
not_empty_some (member h t ms) e = refl

-- ---- numbers

positive : (ds : List ℕ) → all (λ d. nat_le 1 d) ds ≡ true → zero < product ds
positive [] e = omega arith
positive (d ∷ ds) e =
    let p = and_parts (nat_le 1 d) (all (λ x. nat_le 1 x) ds) e in
    let first : zero < d = omega (arith, leb-true 1 d p.0) in
    mul-pos first (positive ds p.1)

fixed_ext : (e : Ext) → not_mutable e ≡ true → not (is_mutable e) ≡ true
fixed_ext Final e = refl
fixed_ext Appendable e = refl
fixed_ext Mutable e = absurd cc

-- ---- a literal's value fits the holder of its enumeration

in_holder : (bits : ℕ) (v : ℤ) → is_below (2 ^ bits) v ≡ true → bits < 32 → in_range (enum_size bits) (enum_size bits == 4) v ≡ true
in_holder bits (negsuc n) e l = absurd cc
in_holder bits (pos n) e l = elim (cases_Bool (nat_le bits 8)) [
  | inl y ↦ (let top : 2 ^ bits ≤ 2 ^ 8 = pow_mono (leb-true bits 8 y) in
      ap (λ (c : Bool). let k = cond c 1 (cond (nat_le bits 16) 2 4) in in_range k (k == 4) (pos n)) y ∙ lt-ltb n 256 (omega (arith, top, ltb-true n (2 ^ bits) e)))
  | inr m ↦ elim (cases_Bool (nat_le bits 16)) [
    | inl y ↦ (let top : 2 ^ bits ≤ 2 ^ 16 = pow_mono (leb-true bits 16 y) in
        ap (λ (c : Bool). let k = cond c 1 (cond (nat_le bits 16) 2 4) in in_range k (k == 4) (pos n)) m ∙ ap (λ (c : Bool). let k = cond c 2 4 in in_range k (k == 4) (pos n)) y
        ∙ lt-ltb n 65536 (omega (arith, top, ltb-true n (2 ^ bits) e)))
    | inr o ↦ (let few : bits ≤ 31 = omega (arith, l) in
        let top : 2 ^ bits ≤ 2 ^ 31 = pow_mono few in
        ap (λ (c : Bool). let k = cond c 1 (cond (nat_le bits 16) 2 4) in in_range k (k == 4) (pos n)) m ∙ ap (λ (c : Bool). let k = cond c 2 4 in in_range k (k == 4) (pos n)) o
        ∙ lt-ltb n 2147483648 (omega (arith, top, ltb-true n (2 ^ bits) e)))
  ]
]

whole_holder : (bits : ℕ) (v : ℤ) → 32 ≤ bits → in_range 4 true v ≡ true → in_range (enum_size bits) (enum_size bits == 4) v ≡ true
whole_holder bits v l e =
    let m : nat_le bits 8 ≡ false = false_from_ne_true (nat_le bits 8) (λ z. omega (arith, l, leb-true bits 8 z)) in
    let o : nat_le bits 16 ≡ false = false_from_ne_true (nat_le bits 16) (λ z. omega (arith, l, leb-true bits 16 z)) in
    ap (λ (c : Bool). let k = cond c 1 (cond (nat_le bits 16) 2 4) in in_range k (k == 4) v) m ∙ ap (λ (c : Bool). let k = cond c 2 4 in in_range k (k == 4) v) o ∙ e

holder_fits : (bits : ℕ) (v : ℤ) → value_fits bits v ≡ true → in_range (enum_size bits) (enum_size bits == 4) v ≡ true
holder_fits bits v e = elim (cases_Bool (nat_lt bits 32)) [
  | inl y ↦ in_holder bits v (sym (ap (λ (c : Bool). cond c (is_below (2 ^ bits) v) (in_range 4 true v)) y) ∙ e) (ltb-true bits 32 y)
  | inr n ↦ whole_holder bits v (ltb-false bits 32 n) (sym (ap (λ (c : Bool). cond c (is_below (2 ^ bits) v) (in_range 4 true v)) n) ∙ e)
]

literals_fit : (bits : ℕ) (ls : List Literal) → all (λ l. value_fits bits l.value) ls ≡ true → all (λ l. in_range (enum_size bits) (enum_size bits == 4) l.value) ls ≡ true
literals_fit bits [] e = refl
literals_fit bits (l ∷ ls) e =
    let p = and_parts (value_fits bits l.value) (all (λ x. value_fits bits x.value) ls) e in
    and_from _ _ (holder_fits bits l.value p.0) (literals_fit bits ls p.1)

disc_number : (t : Shape) → is_discriminator t ≡ true → is_number t ≡ true
disc_number (prim p) e = refl
disc_number (enumeration ext bits ls) e = refl
disc_number (str bound) e = absurd cc
disc_number (bitmask bits fs) e = absurd cc
disc_number (sequence bound tc t) e = absurd cc
disc_number (array dims tc t) e = absurd cc
disc_number (map_of bound kc k vc v) e = absurd cc
disc_number (structure ext ms) e = absurd cc
disc_number (union ext key disc cs) e = absurd cc

-- ---- what the laws ask, part by part

mutual
  pub sound_from : (t : Shape) → rules_hold t ≡ true → sound t ≡ true
  sound_from (prim p) e = refl
  sound_from (str bound) e = refl
  sound_from (enumeration ext bits ls) e = refl
  sound_from (bitmask bits fs) e = refl
  sound_from (sequence bound tc t) e = sound_from t (right (is_light t) (rules_hold t) e)
  sound_from (array dims tc t) e =
      let p = and_parts (dims_fit dims) (is_light t && rules_hold t) e in
      and_from (nat_lt 0 (product dims)) (sound t) (lt-ltb 0 (product dims) (positive dims (and_parts _ _ p.0).1)) (sound_from t (right (is_light t) (rules_hold t) p.1))
  sound_from (map_of bound kc k vc v) e =
      let p = and_parts (rules_hold k) (rules_hold v) (and_parts _ _ e).1 in
      and_from (sound k) (sound v) (sound_from k p.0) (sound_from v p.1)
  sound_from (structure ext ms) e =
      let p = and_parts (structure_fits ms) (members_hold ms) e in
      let s = structured ms p.0 in
      and_from (some_member ms) (distinct_members ms && sound_members ms) (not_empty_some ms s.some) (and_from (distinct_members ms) (sound_members ms) (ids_distinct ms s.apart) (members_sound ms p.1))
  sound_from (union ext key disc cs) e =
      let p = and_parts (union_fits ext disc cs) (rules_hold disc && cases_hold cs) e in
      let q = and_parts (rules_hold disc) (cases_hold cs) p.1 in
      and_from (not (is_mutable ext)) (sound disc && sound_cases cs) (fixed_ext ext (united ext disc cs p.0).fixed) (and_from (sound disc) (sound_cases cs) (sound_from disc q.0) (cases_sound cs q.1))

  members_sound : (ms : Members) → members_hold ms ≡ true → sound_members ms ≡ true
  members_sound no_members e = refl
  members_sound (member h t ms) e = let p = and_parts (rules_hold t) (members_hold ms) e in and_from (sound t) (sound_members ms) (sound_from t p.0) (members_sound ms p.1)

  cases_sound : (cs : Cases) → cases_hold cs ≡ true → sound_cases cs ≡ true
  cases_sound no_cases e = refl
  cases_sound (one_case h t cs) e = let p = and_parts (rules_hold t) (cases_hold cs) e in and_from (sound t) (sound_cases cs) (sound_from t p.0) (cases_sound cs p.1)

enum_values : (ext : Ext) (bits : ℕ) (ls : List Literal) → enum_fits ext bits ls ≡ true → all (λ l. value_fits bits l.value) ls ≡ true
enum_values ext bits ls e =
    let p = and_parts _ _ e in
    (and_parts _ _ p.1).0

mask_bits : (bits : ℕ) (fs : List Flag) → mask_fits bits fs ≡ true → nat_le bits 64 ≡ true
mask_bits bits fs e =
    let p = and_parts _ _ e in
    right (nat_le 1 bits) (nat_le bits 64) p.0

mutual
  pub storable_from : (t : Shape) → rules_hold t ≡ true → storable t ≡ true
  storable_from (prim p) e = refl
  storable_from (str bound) e = refl
  storable_from (enumeration ext bits ls) e = literals_fit bits ls (enum_values ext bits ls (right (not_empty ls) (enum_fits ext bits ls) (right (hashes_apart (map (λ l. l.hash) ls)) (not_empty ls && enum_fits ext bits ls) e)))
  storable_from (bitmask bits fs) e = mask_bits bits fs (right (not_empty fs) (mask_fits bits fs) (right (hashes_apart (map (λ f. f.hash) fs)) (not_empty fs && mask_fits bits fs) e))
  storable_from (sequence bound tc t) e = storable_from t (right (is_light t) (rules_hold t) e)
  storable_from (array dims tc t) e = storable_from t (right (is_light t) (rules_hold t) (right (dims_fit dims) (is_light t && rules_hold t) e))
  storable_from (map_of bound kc k vc v) e =
      let p = and_parts (rules_hold k) (rules_hold v) (and_parts _ _ e).1 in
      and_from (storable k) (storable v) (storable_from k p.0) (storable_from v p.1)
  storable_from (structure ext ms) e =
      let p = and_parts (structure_fits ms) (members_hold ms) e in
      members_from ms (structured ms p.0).low p.1
  storable_from (union ext key disc cs) e =
      let p = and_parts (union_fits ext disc cs) (rules_hold disc && cases_hold cs) e in
      let q = and_parts (rules_hold disc) (cases_hold cs) p.1 in
      and_from (is_number disc && storable disc) (cases_storable cs) (and_from (is_number disc) (storable disc) (disc_number disc (united ext disc cs p.0).disc_fits) (storable_from disc q.0)) (cases_from cs q.1)

  members_from : (ms : Members) → all (λ n. nat_lt n 268435455) (map (λ h. h.id) (heads ms)) ≡ true → members_hold ms ≡ true → members_storable ms ≡ true
  members_from no_members l e = refl
  members_from (member h t ms) l e =
      let p = and_parts (rules_hold t) (members_hold ms) e in
      let q = and_parts (nat_lt h.id 268435455) (all (λ n. nat_lt n 268435455) (map (λ x. x.id) (heads ms))) l in
      and_from (nat_lt h.id 268435455) (storable t && members_storable ms) q.0 (and_from (storable t) (members_storable ms) (storable_from t p.0) (members_from ms q.1 p.1))

  cases_from : (cs : Cases) → cases_hold cs ≡ true → cases_storable cs ≡ true
  cases_from no_cases e = refl
  cases_from (one_case h t cs) e = let p = and_parts (rules_hold t) (cases_hold cs) e in and_from (storable t) (cases_storable cs) (storable_from t p.0) (cases_from cs p.1)

mutual
  pub apart_from : (t : Shape) → rules_hold t ≡ true → cases_apart t ≡ true
  apart_from (prim p) e = refl
  apart_from (str bound) e = refl
  apart_from (enumeration ext bits ls) e = refl
  apart_from (bitmask bits fs) e = refl
  apart_from (sequence bound tc t) e = apart_from t (right (is_light t) (rules_hold t) e)
  apart_from (array dims tc t) e = apart_from t (right (is_light t) (rules_hold t) (right (dims_fit dims) (is_light t && rules_hold t) e))
  apart_from (map_of bound kc k vc v) e =
      let p = and_parts (rules_hold k) (rules_hold v) (and_parts _ _ e).1 in
      and_from (cases_apart k) (cases_apart v) (apart_from k p.0) (apart_from v p.1)
  apart_from (structure ext ms) e = members_apart ms (right (structure_fits ms) (members_hold ms) e)
  apart_from (union ext key disc cs) e =
      let p = and_parts (union_fits ext disc cs) (rules_hold disc && cases_hold cs) e in
      let q = and_parts (rules_hold disc) (cases_hold cs) p.1 in
      and_from (cases_apart disc) (in_cases_apart cs) (apart_from disc q.0) (each_apart cs (united ext disc cs p.0).apart q.1)

  members_apart : (ms : Members) → members_hold ms ≡ true → in_members_apart ms ≡ true
  members_apart no_members e = refl
  members_apart (member h t ms) e = let p = and_parts (rules_hold t) (members_hold ms) e in and_from (cases_apart t) (in_members_apart ms) (apart_from t p.0) (members_apart ms p.1)

  each_apart : (cs : Cases) → distinct nat_eq (map (λ h. h.id) (case_heads cs)) ≡ true → cases_hold cs ≡ true → in_cases_apart cs ≡ true
  each_apart no_cases d e = refl
  each_apart (one_case h t cs) d e =
      let p = and_parts (rules_hold t) (cases_hold cs) e in
      let q = and_parts (not (has (nat_eq h.id) (map (λ x. x.id) (case_heads cs)))) (distinct nat_eq (map (λ x. x.id) (case_heads cs))) d in
      and_from (not (has_case cs h.id)) (cases_apart t && in_cases_apart cs) (ap not (sym (case_in cs h.id)) ∙ q.0) (and_from (cases_apart t) (in_cases_apart cs) (apart_from t p.0) (each_apart cs q.1 p.1))

mutual
  pub light_from : (t : Shape) → rules_hold t ≡ true → light t ≡ true
  light_from (prim p) e = refl
  light_from (str bound) e = refl
  light_from (enumeration ext bits ls) e = refl
  light_from (bitmask bits fs) e = refl
  light_from (sequence bound tc t) e = let p = and_parts (is_light t) (rules_hold t) e in and_from (is_light t) (light t) p.0 (light_from t p.1)
  light_from (array dims tc t) e = let p = and_parts (is_light t) (rules_hold t) (right (dims_fit dims) (is_light t && rules_hold t) e) in and_from (is_light t) (light t) p.0 (light_from t p.1)
  light_from (map_of bound kc k vc v) e =
      let a = and_parts _ _ e in
      let w = and_parts (is_light k) (is_light v) (and_parts _ _ a.0).1 in
      let p = and_parts (rules_hold k) (rules_hold v) a.1 in
      and_from (is_light k && light k) (is_light v && light v) (and_from (is_light k) (light k) w.0 (light_from k p.0)) (and_from (is_light v) (light v) w.1 (light_from v p.1))
  light_from (structure ext ms) e = members_light ms (right (structure_fits ms) (members_hold ms) e)
  light_from (union ext key disc cs) e =
      let q = and_parts (rules_hold disc) (cases_hold cs) (right (union_fits ext disc cs) (rules_hold disc && cases_hold cs) e) in
      and_from (light disc) (light_cases cs) (light_from disc q.0) (cases_light cs q.1)

  members_light : (ms : Members) → members_hold ms ≡ true → light_members ms ≡ true
  members_light no_members e = refl
  members_light (member h t ms) e = let p = and_parts (rules_hold t) (members_hold ms) e in and_from (light t) (light_members ms) (light_from t p.0) (members_light ms p.1)

  cases_light : (cs : Cases) → cases_hold cs ≡ true → light_cases cs ≡ true
  cases_light no_cases e = refl
  cases_light (one_case h t cs) e = let p = and_parts (rules_hold t) (cases_hold cs) e in and_from (light t) (light_cases cs) (light_from t p.0) (cases_light cs p.1)

-- ---- defaults

zero_typed : (p : Primitive) → of_prim p (pos 0) ≡ true
zero_typed Boolean = refl
zero_typed Byte = refl
zero_typed Int8 = refl
zero_typed Uint8 = refl
zero_typed Int16 = refl
zero_typed Uint16 = refl
zero_typed Int32 = refl
zero_typed Uint32 = refl
zero_typed Int64 = refl
zero_typed Uint64 = refl
zero_typed Float32 = refl
zero_typed Float64 = refl
zero_typed Char8 = refl

-- an empty collection or text is within any bound
none_past : (bound : ℕ) → not (is_past bound 0) ≡ true
none_past bound = ap (λ (c : Bool). not (not (bound == 0) && c)) (le-ltb bound 0 (omega arith)) ∙ by_bound (bound == 0)
  where
    by_bound : (c : Bool) → not (not c && false) ≡ true
    by_bound true = refl
    by_bound false = refl

marked_literal : (ls : List Literal) (i : ℤ) → marked ls ≡ Some i → is_literal ls i ≡ true
marked_literal [] i e = absurd cc
marked_literal (l ∷ ls) i e = elim (cases_Bool l.is_default) [
  | inl y ↦ (let f : Some l.value ≡ Some i = sym (ap (λ (c : Bool). cond c (Some l.value) (marked ls)) y) ∙ e in
      let z : l.value ≡ i = cc in or_left (int_eq l.value i) (is_literal ls i) ((Decides-int_eq l.value i).1 z))
  | inr n ↦ or_right (int_eq l.value i) (is_literal ls i) (marked_literal ls i (sym (ap (λ (c : Bool). cond c (Some l.value) (marked ls)) n) ∙ e))
]

default_literal : (ls : List Literal) → not_empty ls ≡ true → is_literal ls (int_or (marked ls) (first_value ls)) ≡ true
default_literal [] e = absurd cc
default_literal (l ∷ ls) e = by_mark (marked (l ∷ ls)) refl
  where
    by_mark : (o : Option ℤ) → marked (l ∷ ls) ≡ o → is_literal (l ∷ ls) (int_or o l.value) ≡ true
    by_mark None f = or_left (int_eq l.value l.value) (is_literal ls l.value) ((Decides-int_eq l.value l.value).1 refl)
    by_mark (Some i) f = marked_literal (l ∷ ls) i f

listed_back : (xs : List Val) → each_val (vals_of xs) ≡ xs
listed_back [] = refl
listed_back (x ∷ xs) = ap (λ (ys : List Val). x ∷ ys) (listed_back xs)

all_same : (p : Val → Bool) (n : ℕ) (v : Val) → p v ≡ true → all p (replicate n v) ≡ true
all_same p zero v e = refl
all_same p (suc n) v e = and_from (p v) (all p (replicate n v)) e (all_same p n v e)

-- a slot's default
slot_typed : (o : Bool) (f : Val → Bool) (d : Val) → f d ≡ true → of_slot o f (cond o absent (present d)) ≡ true
slot_typed true f d e = refl
slot_typed false f d e = e

abbrev own_cases : Cases → Bool
own_cases no_cases = true
own_cases (one_case h t cs) = own_default t && own_cases cs

-- the first label: it selects its case, whose default has the case's type
record First (cs : Cases) : Type 0 where
  number : ℤ
  id : ℕ
  body : Val
  is : default_union cs ≡ union_of number (present body)
  found : labelled cs number ≡ Some id
  known : has_case cs id ≡ true
  typed : case_type cs id body ≡ true
  label : has (int_eq number) (labels_of (case_heads cs)) ≡ true

first_label : (cs : Cases) → not_empty (labels_of (case_heads cs)) ≡ true → distinct nat_eq (map (λ h. h.id) (case_heads cs)) ≡ true → own_cases cs ≡ true → First cs
unfolding case_type
first_label no_cases e d o = absurd cc
first_label (one_case h t cs) e d o = by_labels h.labels refl (λ f. first_label cs f p.1 q.1)
  where
    p : (not (has (nat_eq h.id) (map (λ x. x.id) (case_heads cs))) ≡ true) × (distinct nat_eq (map (λ x. x.id) (case_heads cs)) ≡ true)
    p = and_parts (not (has (nat_eq h.id) (map (λ x. x.id) (case_heads cs)))) (distinct nat_eq (map (λ x. x.id) (case_heads cs))) d

    q : (own_default t ≡ true) × (own_cases cs ≡ true)
    q = and_parts (own_default t) (own_cases cs) o

    apart : (i : ℕ) → has_case cs i ≡ true → h.id ≡ i → ⊥
    apart i k z = both_ways (has_case cs h.id) (not-true (has_case cs h.id) (ap not (sym (case_in cs h.id)) ∙ p.0)) (ap (has_case cs) z ∙ k)

    by_labels : (ls : List ℤ) → h.labels ≡ ls → (not_empty (labels_of (case_heads cs)) ≡ true → First cs) → First (one_case h t cs)
    by_labels [] f rest =
        let r = rest (ap (λ (ls : List ℤ). not_empty (ls ++ labels_of (case_heads cs))) (sym f) ∙ e) in
        record {
          number = r.number;
          id = r.id;
          body = r.body;
          is = ap (λ (ls : List ℤ). by_label ls (λ l. union_of l (present (default_of t))) (default_union cs)) f ∙ r.is;
          found = ap (λ (ls : List ℤ). cond (has (int_eq r.number) ls) (Some h.id) (labelled cs r.number)) f ∙ r.found;
          known = or_right (h.id == r.id) (has_case cs r.id) r.known;
          typed = ap (λ (c : Bool). cond c (has_type t r.body) (case_type cs r.id r.body)) (ne_eqb h.id r.id (apart r.id r.known)) ∙ r.typed;
          label = ap (λ (ls : List ℤ). has (int_eq r.number) (ls ++ labels_of (case_heads cs))) f ∙ r.label;
        }
    by_labels (l ∷ ls) f rest =
        let self : int_eq l l ≡ true = (Decides-int_eq l l).1 refl in
        record {
          number = l;
          id = h.id;
          body = default_of t;
          is = ap (λ (xs : List ℤ). by_label xs (λ x. union_of x (present (default_of t))) (default_union cs)) f;
          found = ap (λ (xs : List ℤ). cond (has (int_eq l) xs) (Some h.id) (labelled cs l)) f ∙ ap (λ (c : Bool). cond (c || has (int_eq l) ls) (Some h.id) (labelled cs l)) self;
          known = or_left (h.id == h.id) (has_case cs h.id) (eq-eqb h.id h.id refl);
          typed = ap (λ (c : Bool). cond c (has_type t (default_of t)) (case_type cs h.id (default_of t))) (eq-eqb h.id h.id refl) ∙ q.0;
          label = ap (λ (xs : List ℤ). has (int_eq l) (xs ++ labels_of (case_heads cs))) f ∙ or_left (int_eq l l) (has (int_eq l) (ls ++ labels_of (case_heads cs))) self;
        }

all_at : (p : ℤ → Bool) (xs : List ℤ) (d : ℤ) → all p xs ≡ true → has (int_eq d) xs ≡ true → p d ≡ true
all_at p [] d e h = absurd cc
all_at p (x ∷ xs) d e h =
    let q = and_parts (p x) (all p xs) e in
    elim (or_cases (int_eq d x) (has (int_eq d) xs) h) [ inl y ↦ ap p ((Decides-int_eq d x).0 y) ∙ q.0 | inr n ↦ all_at p xs d q.1 n ]

union_typed : (ext : Ext) (key : Bool) (disc : Shape) (cs : Cases) → United ext disc cs → own_cases cs ≡ true → has_type (union ext key disc cs) (default_union cs) ≡ true
unfolding has_type
union_typed ext key disc cs u o =
    let x = first_label cs u.labelled u.apart o in
    let chosen : of_body (select cs x.number) (λ i w. case_type cs i w) (present x.body) ≡ true = ap (λ (c : Option ℕ). of_body (or_else c (default_case cs)) (λ i w. case_type cs i w) (present x.body)) x.found ∙ x.typed in
    ap (has_type (union ext key disc cs)) x.is ∙ and_from (has_type disc (int x.number)) (of_body (select cs x.number) (λ i w. case_type cs i w) (present x.body)) (all_at (λ d. has_type disc (int d)) (labels_of (case_heads cs)) x.number u.labels_typed x.label) chosen

array_typed : (dims : List ℕ) (t : Shape) (d : Val) → has_type t d ≡ true → ((length (each_val (vals_of (replicate (product dims) d))) == product dims) && all (λ w. has_type t w) (each_val (vals_of (replicate (product dims) d)))) ≡ true
array_typed dims t d e =
    let n = product dims in
    ap (λ (xs : List Val). (length xs == n) && all (λ w. has_type t w) xs) (listed_back (replicate n d))
    ∙ and_from (length (replicate n d) == n) (all (λ w. has_type t w) (replicate n d)) (eq-eqb (length (replicate n d)) n (length-replicate n d)) (all_same (has_type t) n d e)

mutual
  unfolding has_type have_types

  -- the default of a valid type has it
  pub default_typed : (t : Shape) → rules_hold t ≡ true → has_type t (default_of t) ≡ true
  default_typed (prim p) e = zero_typed p
  default_typed (str bound) e = and_from (not (is_past bound 0)) true (none_past bound) refl
  default_typed (enumeration ext bits ls) e = default_literal ls (and_parts (not_empty ls) (enum_fits ext bits ls) (right (hashes_apart (map (λ l. l.hash) ls)) (not_empty ls && enum_fits ext bits ls) e)).0
  default_typed (bitmask bits fs) e = lt-ltb 0 (2 ^ bits) (pow_pos bits)
  default_typed (sequence bound tc t) e = and_from (not (is_past bound 0)) true (none_past bound) refl
  default_typed (array dims tc t) e = array_typed dims t (default_of t) (default_typed t (right (is_light t) (rules_hold t) (right (dims_fit dims) (is_light t && rules_hold t) e)))
  default_typed (map_of bound kc k vc v) e = and_from (not (is_past bound 0) && true) true (and_from (not (is_past bound 0)) true (none_past bound) refl) refl
  default_typed (structure ext ms) e = members_typed ms (right (structure_fits ms) (members_hold ms) e)
  default_typed (union ext key disc cs) e =
      let p = and_parts (union_fits ext disc cs) (rules_hold disc && cases_hold cs) e in
      union_typed ext key disc cs (united ext disc cs p.0) (cases_typed cs (right (rules_hold disc) (cases_hold cs) p.1))

  members_typed : (ms : Members) → members_hold ms ≡ true → have_types ms (default_slots ms) ≡ true
  members_typed no_members e = refl
  members_typed (member h t ms) e =
      let p = and_parts (rules_hold t) (members_hold ms) e in
      and_from (of_slot h.optional (λ w. has_type t w) (cond h.optional absent (present (default_of t)))) (have_types ms (default_slots ms)) (slot_typed h.optional (has_type t) (default_of t) (default_typed t p.0)) (members_typed ms p.1)

  cases_typed : (cs : Cases) → cases_hold cs ≡ true → own_cases cs ≡ true
  cases_typed no_cases e = refl
  cases_typed (one_case h t cs) e = let p = and_parts (rules_hold t) (cases_hold cs) e in and_from (own_default t) (own_cases cs) (default_typed t p.0) (cases_typed cs p.1)

both_defaults : (t : Shape) → rules_hold t ≡ true → defaults_typed t ≡ true → (own_default t && defaults_typed t) ≡ true
both_defaults t e d = and_from (own_default t) (defaults_typed t) (default_typed t e) d

mutual
  pub defaults_from : (t : Shape) → rules_hold t ≡ true → defaults_typed t ≡ true
  defaults_from (prim p) e = refl
  defaults_from (str bound) e = refl
  defaults_from (enumeration ext bits ls) e = refl
  defaults_from (bitmask bits fs) e = refl
  defaults_from (sequence bound tc t) e = let r = right (is_light t) (rules_hold t) e in both_defaults t r (defaults_from t r)
  defaults_from (array dims tc t) e = let r = right (is_light t) (rules_hold t) (right (dims_fit dims) (is_light t && rules_hold t) e) in both_defaults t r (defaults_from t r)
  defaults_from (map_of bound kc k vc v) e =
      let p = and_parts (rules_hold k) (rules_hold v) (and_parts _ _ e).1 in
      and_from (own_default k && defaults_typed k) (own_default v && defaults_typed v) (both_defaults k p.0 (defaults_from k p.0)) (both_defaults v p.1 (defaults_from v p.1))
  defaults_from (structure ext ms) e = members_defaults ms (right (structure_fits ms) (members_hold ms) e)
  defaults_from (union ext key disc cs) e = cases_defaults cs (right (rules_hold disc) (cases_hold cs) (right (union_fits ext disc cs) (rules_hold disc && cases_hold cs) e))

  members_defaults : (ms : Members) → members_hold ms ≡ true → member_defaults ms ≡ true
  members_defaults no_members e = refl
  members_defaults (member h t ms) e = let p = and_parts (rules_hold t) (members_hold ms) e in and_from (own_default t && defaults_typed t) (member_defaults ms) (both_defaults t p.0 (defaults_from t p.0)) (members_defaults ms p.1)

  cases_defaults : (cs : Cases) → cases_hold cs ≡ true → case_defaults cs ≡ true
  cases_defaults no_cases e = refl
  cases_defaults (one_case h t cs) e = let p = and_parts (rules_hold t) (cases_hold cs) e in and_from (own_default t && defaults_typed t) (case_defaults cs) (both_defaults t p.0 (defaults_from t p.0)) (cases_defaults cs p.1)

-- ---- keys, and all at once

pub keys_from : (t : Shape) → rules_hold t ≡ true → keys_sound t ≡ true
keys_from (prim p) e = refl
keys_from (str bound) e = refl
keys_from (enumeration ext bits ls) e = refl
keys_from (bitmask bits fs) e = refl
keys_from (sequence bound tc t) e = refl
keys_from (array dims tc t) e = refl
keys_from (map_of bound kc k vc v) e = refl
keys_from (structure ext ms) e =
    let s = structured ms (and_parts (structure_fits ms) (members_hold ms) e).0 in
    and_from (counted_keyable true ms) (keys_discard (heads ms)) s.keyable s.discard
keys_from (union ext key disc cs) e = refl

pub premises_from : (t : Shape) → rules_hold t ≡ true → premises_hold t ≡ true
premises_from t e =
    and_from (sound t) _ (sound_from t e) (and_from (storable t) _ (storable_from t e) (and_from (cases_apart t) _ (apart_from t e) (and_from (light t) _ (light_from t e) (and_from (defaults_typed t) (keys_sound t) (defaults_from t e) (keys_from t e)))))
