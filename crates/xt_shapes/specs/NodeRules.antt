-- The rules of valid types (DDS-XTypes 1.3, 7.2.2; which are this profile's own is said at each), each for the part of a type that it speaks
-- of, and whether they hold at every node of a shape. Names (V1), bases (V17, V18), depth and size (V15, V16) are not seen here.
use Rattle.std.specs.Prelude.{ℕ, ◌^◌, ℤ, Bool, true, false, not, ◌&&◌, ◌||◌, nat_eq, nat_le, nat_lt, cond, map, List, [], ◌∷◌, ◌++◌, length}
use Rattle.std.specs.Ordering.{int_eq}
use Rattle.xt_shapes.specs.declared.leaves.Ext.{Ext}
use Rattle.xt_shapes.specs.declared.leaves.Try.{Try}
use Rattle.xt_shapes.specs.declared.leaves.Primitive.{Primitive}
use Rattle.xt_shapes.specs.Lists.{has, all}
use Rattle.xt_shapes.specs.Shape.{Literal, Flag, Head, CaseHead, Shape, prim, str, enumeration, bitmask, sequence, array, map_of, structure, union, Members, no_members, member, Cases, no_cases, one_case, heads, case_heads}
use Rattle.xt_shapes.specs.Vals.{int}
use Rattle.xt_shapes.specs.Typing.{has_type, in_range, is_below}
use Rattle.xt_shapes.specs.Weight.{weight}
use Rattle.xt_shapes.specs.Keyable.{counted_keyable}

abbrev pub not_empty : {A : Type 0} → List A → Bool
not_empty [] = false
not_empty (x ∷ xs) = true

-- no two items are equal
abbrev pub distinct : {A : Type 0} → (A → A → Bool) → List A → Bool
distinct eq [] = true
distinct eq (x ∷ xs) = not (has (eq x) xs) && distinct eq xs

-- no two items pass
abbrev pub at_most_one : {A : Type 0} → (A → Bool) → List A → Bool
at_most_one p [] = true
at_most_one p (x ∷ xs) = cond (p x) (not (has p xs)) (at_most_one p xs)

-- FINAL or APPENDABLE: of unions V9
abbrev pub not_mutable : Ext → Bool
not_mutable Ext.Final = true
not_mutable Ext.Appendable = true
not_mutable Ext.Mutable = false

-- ---- V2: the NameHashes of one structure, union, enumeration or bitmask are distinct (DDS-XTypes 1.3, 7.3.4)

abbrev pub hashes_apart : List ℕ → Bool
hashes_apart hashes = distinct nat_eq hashes

-- ---- V3: the ids of members and cases are below 0x0FFFFFFF and distinct (7.2.2.4.4; that ids below it which the standard reserves
-- are not refused is this profile's own)

abbrev pub is_low : ℕ → Bool
is_low id = nat_lt id 268435455

abbrev pub ids_fit : List ℕ → Bool
ids_fit ids = all is_low ids && distinct nat_eq ids

-- ---- V5: an enumeration is FINAL or APPENDABLE and has 1 to 32 bits; its values are distinct and fit its bits; one literal at
-- most is the default (7.2.2.4.1)

-- at least 0 and below 2^bits; with 32 bits, any number of 32 bits with a sign (this profile's own)
abbrev pub value_fits : ℕ → ℤ → Bool
value_fits bits value = cond (nat_lt bits 32) (is_below (2 ^ bits) value) (in_range 4 true value)

abbrev pub enum_fits : Ext → ℕ → List Literal → Bool
enum_fits ext bits literals =
    (not_mutable ext && (nat_le 1 bits && nat_le bits 32)) && (all (λ l. value_fits bits l.value) literals && (distinct int_eq (map (λ l. l.value) literals) && at_most_one (λ l. l.is_default) literals))

-- ---- V6: a bitmask has 1 to 64 bits; its positions are distinct and below the number of bits (7.2.2.4.1)

abbrev pub mask_fits : ℕ → List Flag → Bool
mask_fits bits flags =
    (nat_le 1 bits && nat_le bits 64) && (all (λ f. nat_lt f.position bits) flags && distinct nat_eq (map (λ f. f.position) flags))

-- ---- V7: an array has 1 to 8 dimensions, each at least 1 (7.2.2.4.3; the limit of 8 is this profile's own)

abbrev pub dims_fit : List ℕ → Bool
dims_fit dims = (not_empty dims && nat_le (length dims) 8) && all (λ d. nat_le 1 d) dims

-- ---- V8: a map's key is a primitive that is no float, a string or an enumeration (7.2.2.4.3)

abbrev pub is_float : Primitive → Bool
is_float Primitive.Boolean = false
is_float Primitive.Byte = false
is_float Primitive.Int8 = false
is_float Primitive.Uint8 = false
is_float Primitive.Int16 = false
is_float Primitive.Uint16 = false
is_float Primitive.Int32 = false
is_float Primitive.Uint32 = false
is_float Primitive.Int64 = false
is_float Primitive.Uint64 = false
is_float Primitive.Float32 = true
is_float Primitive.Float64 = true
is_float Primitive.Char8 = false

abbrev pub is_map_key : Shape → Bool
is_map_key (prim p) = not (is_float p)
is_map_key (str bound) = true
is_map_key (enumeration ext bits literals) = true
is_map_key _ = false

-- ---- V10: a discriminator is boolean, byte, char8, an integer or an enumeration (7.2.2.4.4)

abbrev pub is_discriminator : Shape → Bool
is_discriminator (prim p) = not (is_float p)
is_discriminator (enumeration ext bits literals) = true
is_discriminator _ = false

-- ---- V11: labels are distinct over the union and values of the discriminator; each case has a label or is the default; one case at
-- most is the default; there is a label (7.2.2.4.4; the last is this profile's own)

abbrev pub joined : {A : Type 0} → List (List A) → List A
joined [] = []
joined (xs ∷ xss) = xs ++ joined xss

abbrev pub labels_of : List CaseHead → List ℤ
labels_of cases = joined (map (λ c. c.labels) cases)

abbrev pub labels_fit : Shape → List CaseHead → Bool
labels_fit disc cases =
    (distinct int_eq (labels_of cases) && all (λ d. has_type disc (int d)) (labels_of cases)) && (all (λ c. not_empty c.labels || c.is_default) cases && (at_most_one (λ c. c.is_default) cases && not_empty (labels_of cases)))

-- ---- V13: a key member has Discard (this profile's own)

abbrev pub is_discard : Try → Bool
is_discard Try.Discard = true
is_discard Try.UseDefault = false
is_discard Try.Trim = false

abbrev pub keys_discard : List Head → Bool
keys_discard members = all (λ m. not m.key || is_discard m.tc) members

-- ---- V14: an element, key or value of a collection weighs at most 128 (this profile's own)

abbrev pub is_light : Shape → Bool
is_light t = nat_le (weight t) 128

-- ---- the rules at one node, its parts aside

-- V2, V3, V4, V12 and V13
abbrev pub structure_fits : Members → Bool
structure_fits ms = (hashes_apart (map (λ h. h.hash) (heads ms)) && ids_fit (map (λ h. h.id) (heads ms))) && (not_empty (heads ms) && (counted_keyable true ms && keys_discard (heads ms)))

-- V2, V3, V4, V9, V10 and V11
abbrev pub union_fits : Ext → Shape → Cases → Bool
union_fits ext disc cs =
    (hashes_apart (map (λ h. h.hash) (case_heads cs)) && ids_fit (map (λ h. h.id) (case_heads cs))) && (not_empty (case_heads cs) && (not_mutable ext && (is_discriminator disc && labels_fit disc (case_heads cs))))

-- ---- the rules at every node

abbrev mutual
  pub rules_hold : Shape → Bool
  rules_hold (prim p) = true
  rules_hold (str bound) = true
  rules_hold (enumeration ext bits literals) = hashes_apart (map (λ l. l.hash) literals) && (not_empty literals && enum_fits ext bits literals)
  rules_hold (bitmask bits flags) = hashes_apart (map (λ f. f.hash) flags) && (not_empty flags && mask_fits bits flags)
  rules_hold (sequence bound tc t) = is_light t && rules_hold t
  rules_hold (array dims tc t) = dims_fit dims && (is_light t && rules_hold t)
  rules_hold (map_of bound kc k vc v) = (is_map_key k && (is_light k && is_light v)) && (rules_hold k && rules_hold v)
  rules_hold (structure ext ms) = structure_fits ms && members_hold ms
  rules_hold (union ext key disc cs) = union_fits ext disc cs && (rules_hold disc && cases_hold cs)

  pub members_hold : Members → Bool
  members_hold no_members = true
  members_hold (member h t ms) = rules_hold t && members_hold ms

  pub cases_hold : Cases → Bool
  cases_hold no_cases = true
  cases_hold (one_case h t cs) = rules_hold t && cases_hold cs
