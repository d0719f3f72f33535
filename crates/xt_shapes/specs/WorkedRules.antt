-- Worked types that keep or break a rule, checked by computation (DDS-XTypes 1.3, 7.2.2).
use Rattle.std.specs.Prelude.{◌≡◌, ℕ, ℤ, pos, negsuc, List, [], ◌∷◌, Bool, true, false}
use Rattle.std.proofs.Common.{refl}
use Rattle.xt_shapes.specs.declared.leaves.Ext.TheVariants.{Final, Mutable}
use Rattle.xt_shapes.specs.declared.leaves.Primitive.TheVariants as prims
use Rattle.xt_shapes.specs.declared.leaves.Try.{Try}
use Rattle.xt_shapes.specs.declared.leaves.Try.TheVariants.{Discard, UseDefault}
use Rattle.xt_shapes.specs.Shape.{Literal, Shape, prim, str, enumeration, bitmask, sequence, array, map_of, structure, union, Members, no_members, member, Cases, no_cases, one_case}
use Rattle.xt_shapes.specs.Typing.{has_type}
use Rattle.xt_shapes.specs.NodeRules.{rules_hold}

abbrev long : Shape
long = prim prims.Int32

abbrev octet : Shape
octet = prim prims.Byte

abbrev told : ℕ → ℕ → Try → Bool → Bool → Shape → Members → Members
told id hash tc optional key t ms = member (record { id = id; hash = hash; tc = tc; optional = optional; must_understand = false; key = key }) t ms

abbrev plain : ℕ → Shape → Members → Members
plain id t ms = told id id Discard false false t ms

abbrev literal : ℕ → ℤ → Literal
literal hash value = record { hash = hash; value = value; is_default = false }

abbrev case : ℕ → List ℤ → Bool → Shape → Cases → Cases
case id labels is_default t cs = one_case (record { id = id; hash = id; tc = Discard; labels = labels; is_default = is_default }) t cs

-- whether the rules hold is as said
abbrev ruled : Bool → Shape → Type 0
ruled b t = rules_hold t ≡ b

-- ---- structures

two_members : ruled true (structure Final (plain 0 long (plain 1 octet no_members)))
two_members = refl

no_member : ruled false (structure Final no_members)
no_member = refl

one_id_twice : ruled false (structure Final (told 3 1 Discard false false long (told 3 2 Discard false false long no_members)))
one_id_twice = refl

one_name_twice : ruled false (structure Final (told 1 7 Discard false false long (told 2 7 Discard false false long no_members)))
one_name_twice = refl

greatest_id : ruled true (structure Mutable (plain 0x0FFFFFFE long no_members))
greatest_id = refl

id_past_the_greatest : ruled false (structure Mutable (plain 0x0FFFFFFF long no_members))
id_past_the_greatest = refl

optional_key : ruled false (structure Final (told 0 0 Discard true true long no_members))
optional_key = refl

key_with_a_default : ruled false (structure Final (told 0 0 UseDefault false true long no_members))
key_with_a_default = refl

map_as_key : ruled false (structure Final (told 0 0 Discard false true (map_of 0 Discard long Discard long) no_members))
map_as_key = refl

-- ---- collections

heaviest_element : ruled true (sequence 0 Discard (array (127 ∷ []) Discard octet))
heaviest_element = refl

too_heavy_element : ruled false (sequence 0 Discard (array (128 ∷ []) Discard octet))
too_heavy_element = refl

no_dimension : ruled false (array [] Discard octet)
no_dimension = refl

dimension_of_zero : ruled false (array (2 ∷ 0 ∷ []) Discard octet)
dimension_of_zero = refl

float_as_map_key : ruled false (map_of 0 Discard (prim prims.Float32) Discard long)
float_as_map_key = refl

-- ---- enumerations and bitmasks

abbrev of_two : ℕ → ℤ → Shape
of_two bits value = enumeration Final bits (literal 0 (pos 0) ∷ literal 1 value ∷ [])

greatest_value : ruled true (of_two 8 (pos 255))
greatest_value = refl

value_past_the_bits : ruled false (of_two 8 (pos 256))
value_past_the_bits = refl

negative_in_32_bits : ruled true (of_two 32 (negsuc 0))
negative_in_32_bits = refl

negative_in_fewer : ruled false (of_two 31 (negsuc 0))
negative_in_fewer = refl

one_value_twice : ruled false (of_two 8 (pos 0))
one_value_twice = refl

position_past_the_bits : ruled false (bitmask 3 (record { hash = 0; position = 3 } ∷ []))
position_past_the_bits = refl

-- ---- unions

by_number : ruled true (union Final false long (case 0 (pos 1 ∷ pos 2 ∷ []) false long (case 1 [] true octet no_cases)))
unfolding has_type
by_number = refl

default_alone : ruled false (union Final false long (case 0 [] true long no_cases))
unfolding has_type
default_alone = refl

one_label_twice : ruled false (union Final false long (case 0 (pos 1 ∷ []) false long (case 1 (pos 1 ∷ []) false octet no_cases)))
unfolding has_type
one_label_twice = refl

label_past_the_discriminator : ruled false (union Final false octet (case 0 (pos 256 ∷ []) false long no_cases))
unfolding has_type
label_past_the_discriminator = refl

mutable_union : ruled false (union Mutable false long (case 0 (pos 1 ∷ []) false long no_cases))
unfolding has_type
mutable_union = refl

text_as_discriminator : ruled false (union Final false (str 0) (case 0 (pos 1 ∷ []) false long no_cases))
unfolding has_type
text_as_discriminator = refl
