-- The tests of the rules of assignability on names, members, literals, labels and bounds (DDS-XTypes 1.3, 7.2.4.4).
use Rattle.std.specs.Prelude.{ℕ, ℤ, List, Bool, true, false, not, ◌==◌, ◌&&◌, ◌||◌, nat_le}
use Rattle.std.specs.Bool.{beq}
use Rattle.std.specs.Ordering.{int_eq}
use Rattle.xt_shapes.specs.declared.leaves.Ext.{Ext}
use Rattle.xt_shapes.specs.declared.leaves.Ext.TheVariants.{Final, Appendable, Mutable}
use Rattle.xt_shapes.specs.declared.leaves.Rep.{Rep}
use Rattle.xt_shapes.specs.declared.leaves.Rep.TheVariants.{Xcdr1, Xcdr2}
use Rattle.xt_shapes.specs.Lists.{has, all}
use Rattle.xt_shapes.specs.Select.{has_member, is_must}
use Rattle.xt_shapes.specs.Shape.{Literal, Head, CaseHead, Shape, prim, str, enumeration, bitmask, sequence, array, map_of, structure, union, Members, no_members, member, Cases, heads, case_heads}

-- ---- delimited: what follows a longer or shorter value can be found (7.2.4.2; this list under each representation is this profile's own)

abbrev pub is_xcdr2 : Rep → Bool
is_xcdr2 Xcdr1 = false
is_xcdr2 Xcdr2 = true

abbrev pub structure_delimited : Rep → Ext → Bool
structure_delimited r Final = false
structure_delimited r Appendable = is_xcdr2 r
structure_delimited r Mutable = true

abbrev pub union_delimited : Rep → Ext → Bool
union_delimited r Final = false
union_delimited r Appendable = is_xcdr2 r
union_delimited r Mutable = false

abbrev pub delimited : Rep → Shape → Bool
delimited r (prim p) = true
delimited r (str bound) = true
delimited r (enumeration e bits ls) = true
delimited r (bitmask bits fs) = true
delimited r (sequence bound tc t) = delimited r t
delimited r (array dims tc t) = delimited r t
delimited r (map_of bound kc k vc t) = delimited r k && delimited r t
delimited r (structure e ms) = structure_delimited r e
delimited r (union e key disc cs) = union_delimited r e

-- ---- names: the same NameHash exactly where the same id or value

abbrev pub name_fits : ℕ → ℕ → List Head → Bool
name_fits hash id ys = all (λ b. beq (hash == b.hash) (id == b.id)) ys

abbrev pub same_names : List Head → List Head → Bool
same_names xs ys = all (λ a. name_fits a.hash a.id ys) xs

abbrev pub case_name_fits : ℕ → ℕ → List CaseHead → Bool
case_name_fits hash id ys = all (λ b. beq (hash == b.hash) (id == b.id)) ys

abbrev pub same_case_names : List CaseHead → List CaseHead → Bool
same_case_names xs ys = all (λ a. case_name_fits a.hash a.id ys) xs

abbrev pub literal_name_fits : ℕ → ℤ → List Literal → Bool
literal_name_fits hash value ys = all (λ b. beq (hash == b.hash) (int_eq value b.value)) ys

abbrev pub same_literal_names : List Literal → List Literal → Bool
same_literal_names xs ys = all (λ a. literal_name_fits a.hash a.value ys) xs

-- ---- members

abbrev pub ids_within : Members → Members → Bool
ids_within ms ns = all (λ a. has_member ns a.id) (heads ms)

-- a member that must be understood is there, or optional
abbrev pub need_met : Head → Members → Bool
need_met h ns = h.optional || (not (is_must h) || has_member ns h.id)

abbrev pub needs_within : Members → Members → Bool
needs_within ms ns = all (λ h. need_met h ns) (heads ms)

abbrev pub common_member : Members → Members → Bool
common_member ms ns = has (λ a. has_member ns a.id) (heads ms)

-- at each index that both have, the same id and optional setting
abbrev pub same_place : Head → Head → Bool
same_place a b = (a.id == b.id) && beq a.optional b.optional

abbrev pub same_places : Members → Members → Bool
same_places no_members ns = true
same_places (member h t ms) no_members = true
same_places (member h t ms) (member h2 u ns) = same_place h h2 && same_places ms ns

-- ---- literals

abbrev pub has_value : List Literal → ℤ → Bool
has_value ls n = has (λ l. int_eq n l.value) ls

abbrev pub values_within : List Literal → List Literal → Bool
values_within xs ys = all (λ a. has_value ys a.value) xs

abbrev pub common_value : List Literal → List Literal → Bool
common_value xs ys = has (λ a. has_value ys a.value) xs

abbrev pub literal_sets : Ext → List Literal → List Literal → Bool
literal_sets Final xs ys = values_within xs ys && values_within ys xs
literal_sets Appendable xs ys = common_value xs ys
literal_sets Mutable xs ys = false

-- ---- labels; the default counts as one (this profile's own)

abbrev pub has_label : Cases → ℤ → Bool
has_label cs d = has (λ h. has (int_eq d) h.labels) (case_heads cs)

abbrev pub has_default : Cases → Bool
has_default cs = has (λ h. h.is_default) (case_heads cs)

abbrev pub labels_within : Cases → Cases → Bool
labels_within cs ds = all (λ h. all (has_label ds) h.labels) (case_heads cs)

abbrev pub common_label : Cases → Cases → Bool
common_label cs ds = has (λ h. has (has_label ds) h.labels) (case_heads cs)

abbrev pub label_sets : Ext → Cases → Cases → Bool
label_sets Final cs ds = labels_within cs ds && (labels_within ds cs && beq (has_default cs) (has_default ds))
label_sets Appendable cs ds = common_label cs ds
label_sets Mutable cs ds = false

-- ---- bounds: one that holds another. A bound of 0 is none

abbrev pub holds_bound : ℕ → ℕ → Bool
holds_bound a b = (a == 0) || (not (b == 0) && nat_le b a)
