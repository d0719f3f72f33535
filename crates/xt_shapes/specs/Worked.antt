-- Worked types, values, defaults, cases and weights, checked by computation (DDS-XTypes 1.3, 7.2.2).
use Rattle.std.specs.Prelude.{◌≡◌, ℕ, ℤ, pos, negsuc, List, [], ◌∷◌, Bool, true, false, Some, None}
use Rattle.std.proofs.Common.{refl}
use Rattle.xt_shapes.specs.declared.leaves.Ext.TheVariants.{Final, Mutable}
use Rattle.xt_shapes.specs.declared.leaves.Primitive.TheVariants as prims
use Rattle.xt_shapes.specs.declared.leaves.Try.TheVariants.{Discard}
use Rattle.xt_shapes.specs.Shape.{Literal, Shape, prim, str, enumeration, bitmask, array, map_of, structure, union, Members, no_members, member, Cases, no_cases, one_case}
use Rattle.xt_shapes.specs.Vals.{Val, int, text, listed, mapped, struct_of, union_of, no_slots, one_slot, absent, present, vals_of, pairs_of}
use Rattle.xt_shapes.specs.Select.{select}
use Rattle.xt_shapes.specs.Defaults.{default_of}
use Rattle.xt_shapes.specs.Typing.{has_type, have_types, case_type}
use Rattle.xt_shapes.specs.Weight.{weight}
use Rattle.xt_shapes.specs.Nodes.{nodes}
use Rattle.xt_shapes.specs.Keyable.{keyable}

abbrev plain : ℕ → Shape → Members → Members
plain id t ms = member (record { id = id; hash = id; tc = Discard; optional = false; must_understand = false; key = false }) t ms

abbrev optional : ℕ → Shape → Members → Members
optional id t ms = member (record { id = id; hash = id; tc = Discard; optional = true; must_understand = false; key = false }) t ms

abbrev keyed : ℕ → Shape → Members → Members
keyed id t ms = member (record { id = id; hash = id; tc = Discard; optional = false; must_understand = false; key = true }) t ms

abbrev case : ℕ → List ℤ → Bool → Shape → Cases → Cases
case id labels is_default t cs = one_case (record { id = id; hash = id; tc = Discard; labels = labels; is_default = is_default }) t cs

abbrev literal : ℤ → Bool → Literal
literal value is_default = record { hash = 0; value = value; is_default = is_default }

-- ---- a pose of a vehicle: a name, a header with a time stamp and a frame, a point, and 36 covariances

abbrev stamp : Shape
stamp = structure Final (plain 0 (prim prims.Int32) (plain 1 (prim prims.Uint32) no_members))

abbrev header : Shape
header = structure Final (plain 0 stamp (plain 1 (str 0) no_members))

abbrev point : Shape
point = structure Final (plain 0 (prim prims.Float64) (plain 1 (prim prims.Float64) (plain 2 (prim prims.Float64) no_members)))

abbrev pose : Shape
pose = structure Mutable (keyed 1 (str 32) (plain 2 header (plain 3 point (plain 4 (array (36 ∷ []) Discard (prim prims.Float64)) no_members))))

weight_of_pose : weight pose ≡ 48
weight_of_pose = refl

pose_is_keyable : keyable pose ≡ true
pose_is_keyable = refl

map_is_not_keyable : keyable (map_of 0 Discard (str 0) Discard (prim prims.Int32)) ≡ false
map_is_not_keyable = refl

-- ---- selection: labels 1 and 2, then 3, then the default

abbrev cases : Cases
cases = case 7 (pos 1 ∷ pos 2 ∷ []) false (prim prims.Int32) (case 8 (pos 3 ∷ []) false (str 4) (case 9 [] true (prim prims.Byte) no_cases))

second_label : select cases (pos 2) ≡ Some 7
second_label = refl

second_case : select cases (pos 3) ≡ Some 8
second_case = refl

any_other_number : select cases (negsuc 99) ≡ Some 9
any_other_number = refl

no_case : select (case 7 (pos 1 ∷ []) false (prim prims.Int32) no_cases) (pos 2) ≡ None
no_case = refl

-- ---- defaults

marked_literal : default_of (enumeration Final 32 (literal (pos 4) false ∷ literal (pos 6) true ∷ [])) ≡ int (pos 6)
marked_literal = refl

first_literal : default_of (enumeration Final 32 (literal (pos 4) false ∷ literal (pos 6) false ∷ [])) ≡ int (pos 4)
first_literal = refl

absent_member : default_of (structure Final (optional 0 (str 0) (plain 1 (str 0) no_members))) ≡ struct_of (one_slot absent (one_slot (present (text [])) no_slots))
absent_member = refl

two_by_two : default_of (array (2 ∷ 2 ∷ []) Discard (prim prims.Byte)) ≡ listed (vals_of (int (pos 0) ∷ int (pos 0) ∷ int (pos 0) ∷ int (pos 0) ∷ []))
two_by_two = refl

first_label : default_of (union Final false (prim prims.Int32) cases) ≡ union_of (pos 1) (present (int (pos 0)))
first_label = refl

-- ---- values by type

unfoldable computed : ℕ
unfolding has_type have_types case_type
computed = 0

-- whether the value has the type is as said
abbrev judged : Bool → Shape → Val → Type 0
judged b t v = has_type t v ≡ b

least_int8 : judged true (prim prims.Int8) (int (negsuc 127))
unfolding computed
least_int8 = refl

below_int8 : judged false (prim prims.Int8) (int (negsuc 128))
unfolding computed
below_int8 = refl

two_is_no_boolean : judged false (prim prims.Boolean) (int (pos 2))
unfolding computed
two_is_no_boolean = refl

text_at_bound : judged true (str 2) (text (97 ∷ 98 ∷ []))
unfolding computed
text_at_bound = refl

text_past_bound : judged false (str 2) (text (97 ∷ 98 ∷ 99 ∷ []))
unfolding computed
text_past_bound = refl

text_with_nul : judged false (str 0) (text (97 ∷ 0 ∷ []))
unfolding computed
text_with_nul = refl

mask_past_bits : judged false (bitmask 3 []) (int (pos 8))
unfolding computed
mask_past_bits = refl

no_such_literal : judged false (enumeration Final 32 (literal (pos 4) false ∷ [])) (int (pos 5))
unfolding computed
no_such_literal = refl

key_twice : judged false (map_of 0 Discard (prim prims.Byte) Discard (str 0)) (mapped (pairs_of ((int (pos 1), text []) ∷ (int (pos 1), text []) ∷ [])))
unfolding computed
key_twice = refl

selected_body : judged true (union Final false (prim prims.Int32) cases) (union_of (pos 3) (present (text [])))
unfolding computed
selected_body = refl

missing_body : judged false (union Final false (prim prims.Int32) cases) (union_of (pos 3) absent)
unfolding computed
missing_body = refl

needless_body : judged false (union Final false (prim prims.Int32) (case 7 (pos 1 ∷ []) false (prim prims.Int32) no_cases)) (union_of (pos 2) (present (int (pos 0))))
unfolding computed
needless_body = refl

missing_member : judged false (structure Final (plain 0 (str 0) no_members)) (struct_of (one_slot absent no_slots))
unfolding computed
missing_member = refl

-- ---- nodes: a list is a node, a union is two and its body, an absent member none

nodes_of_value : nodes (struct_of (one_slot absent (one_slot (present (listed (vals_of (int (pos 1) ∷ int (pos 2) ∷ [])))) (one_slot (present (union_of (pos 3) (present (text [])))) no_slots)))) ≡ 7
nodes_of_value = refl
