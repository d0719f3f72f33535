-- Worked types and their first faults, checked by computation (DDS-XTypes 1.3, 7.2.2). Names are given by their hashes, but where V1 is meant.
use Rattle.std.specs.Prelude.{◌≡◌, ℕ, zero, suc, ℤ, pos, negsuc, List, [], ◌∷◌, Bool, true, false, Option, Some, None, codes}
use Rattle.std.proofs.Common.{refl}
use Rattle.xt_shapes.specs.declared.leaves.Ext.{Ext}
use Rattle.xt_shapes.specs.declared.leaves.Ext.TheVariants.{Final, Appendable, Mutable}
use Rattle.xt_shapes.specs.declared.leaves.Primitive.TheVariants as prims
use Rattle.xt_shapes.specs.declared.leaves.Step.{Step}
use Rattle.xt_shapes.specs.declared.leaves.Try.{Try}
use Rattle.xt_shapes.specs.declared.leaves.Try.TheVariants.{Discard, UseDefault}
use Rattle.xt_shapes.specs.Typing.{has_type}
use Rattle.type_trees.specs.declared.types.Name.{Name}
use Rattle.type_trees.specs.declared.types.Literal.{Literal}
use Rattle.type_trees.specs.declared.types.Flag.{Flag}
use Rattle.type_trees.specs.declared.types.Base.{Base}
use Rattle.type_trees.specs.Bridge.{name_number}
use Rattle.type_trees.specs.Trees.{Tree, prim, str, enumeration, bitmask, sequence, array, map_of, structure, union, alias, Members, no_members, member, Cases, no_cases, one_case}
use Rattle.node_rules.specs.Names.{is_identifier, is_scoped}
use Rattle.node_rules.specs.Table.{failing}
use Rattle.type_rules.specs.Valid.{first_deep, first_fault, type_fault}

-- ---- parts of types

abbrev long : Tree
long = prim prims.Int32

abbrev octet : Tree
octet = prim prims.Byte

abbrev octets : ℕ → Tree
octets n = array (n ∷ []) Discard octet

abbrev told : ℕ → ℕ → Try → Bool → Bool → Tree → Members → Members
told id hash tc optional key t ms = member (record { id = id; name = Name.Hashed hash; tc = tc; optional = optional; must_understand = false; key = key }) t ms

abbrev plain : ℕ → Tree → Members → Members
plain id t ms = told id id Discard false false t ms

abbrev struct_with : Option (List ℕ) → List Base → Members → Tree
struct_with name bases ms = structure (record { name = name; ext = Final; nested = false; hashed_ids = false; bases = bases }) ms

abbrev struct_of : Members → Tree
struct_of ms = struct_with None [] ms

abbrev base : ℕ → Base
base count = record { name = None; nested = false; hashed_ids = false; count = count }

abbrev literal : ℕ → ℤ → Bool → Literal
literal hash value is_default = record { name = Name.Hashed hash; value = value; is_default = is_default }

abbrev enum_of : Ext → ℕ → List Literal → Tree
enum_of ext bits literals = enumeration None ext bits literals

abbrev flag : ℕ → ℕ → Flag
flag hash position = record { name = Name.Hashed hash; position = position }

abbrev case : ℕ → List ℤ → Bool → Tree → Cases → Cases
case id labels is_default t cs = one_case (record { id = id; name = Name.Hashed id; tc = Discard; labels = labels; is_default = is_default }) t cs

abbrev union_of : Ext → Tree → Cases → Tree
union_of ext disc cs = union (record { name = None; ext = ext; nested = false; hashed_ids = false; disc_key = false }) disc cs

-- n aliases of a type
abbrev aliases : ℕ → Tree → Tree
aliases zero t = t
aliases (suc n) t = alias None (aliases n t)

-- ---- names (V1)

identifier : is_identifier (codes "Member_7") ≡ true
identifier = refl

leading_digit : is_identifier (codes "7th") ≡ false
leading_digit = refl

leading_underscore : is_identifier (codes "_member") ≡ false
leading_underscore = refl

no_letter : is_identifier [] ≡ false
no_letter = refl

scoped : is_scoped (codes "geo::shapes::Point") ≡ true
scoped = refl

one_colon : is_scoped (codes "geo:Point") ≡ false
one_colon = refl

three_colons : is_scoped (codes "geo:::Point") ≡ false
three_colons = refl

trailing_colons : is_scoped (codes "geo::") ≡ false
trailing_colons = refl

leading_colons : is_scoped (codes "::Point") ≡ false
leading_colons = refl

-- ---- whole types

-- a type is valid, or breaks a rule at a path
abbrev valid : Tree → Type 0
valid t = type_fault t ≡ None

abbrev breaks : ℕ → List Step → Tree → Type 0
breaks rule path t = type_fault t ≡ Some (rule, path)

scoped_name : valid (struct_with (Some (codes "geo::Point")) [] (plain 0 long no_members))
unfolding type_fault first_deep first_fault failing name_number has_type
scoped_name = refl

name_of_digits : breaks 1 [] (struct_with (Some (codes "7")) [] (plain 0 long no_members))
unfolding type_fault first_deep first_fault failing name_number has_type
name_of_digits = refl

name_in_a_member : breaks 1 (Step.Member 3 ∷ []) (struct_of (plain 3 (alias (Some (codes "a:b")) long) no_members))
unfolding type_fault first_deep first_fault failing name_number has_type
name_in_a_member = refl

two_names : valid (struct_of (told 1 1 Discard false false long (told 2 2 Discard false false long no_members)))
unfolding type_fault first_deep first_fault failing name_number has_type
two_names = refl

one_name_twice : breaks 2 [] (struct_of (told 1 7 Discard false false long (told 2 7 Discard false false long no_members)))
unfolding type_fault first_deep first_fault failing name_number has_type
one_name_twice = refl

one_id_twice : breaks 3 [] (struct_of (told 3 1 Discard false false long (told 3 2 Discard false false long no_members)))
unfolding type_fault first_deep first_fault failing name_number has_type
one_id_twice = refl

greatest_id : valid (struct_of (plain 0x0FFFFFFE long no_members))
unfolding type_fault first_deep first_fault failing name_number has_type
greatest_id = refl

id_past_the_greatest : breaks 3 [] (struct_of (plain 0x0FFFFFFF long no_members))
unfolding type_fault first_deep first_fault failing name_number has_type
id_past_the_greatest = refl

no_member : breaks 4 [] (struct_of no_members)
unfolding type_fault first_deep first_fault failing name_number has_type
no_member = refl

no_literal : breaks 4 (Step.Element ∷ []) (sequence 0 Discard (enum_of Final 32 []))
unfolding type_fault first_deep first_fault failing name_number has_type
no_literal = refl

two_literals : valid (enum_of Appendable 8 (literal 0 (pos 0) true ∷ literal 1 (pos 255) false ∷ []))
unfolding type_fault first_deep first_fault failing name_number has_type
two_literals = refl

value_past_the_bits : breaks 5 [] (enum_of Final 8 (literal 0 (pos 256) false ∷ []))
unfolding type_fault first_deep first_fault failing name_number has_type
value_past_the_bits = refl

negative_in_32_bits : valid (enum_of Final 32 (literal 0 (negsuc 0) false ∷ []))
unfolding type_fault first_deep first_fault failing name_number has_type
negative_in_32_bits = refl

negative_in_31_bits : breaks 5 [] (enum_of Final 31 (literal 0 (negsuc 0) false ∷ []))
unfolding type_fault first_deep first_fault failing name_number has_type
negative_in_31_bits = refl

mutable_enumeration : breaks 5 [] (enum_of Mutable 32 (literal 0 (pos 0) false ∷ []))
unfolding type_fault first_deep first_fault failing name_number has_type
mutable_enumeration = refl

one_value_twice : breaks 5 [] (enum_of Final 32 (literal 0 (pos 4) false ∷ literal 1 (pos 4) false ∷ []))
unfolding type_fault first_deep first_fault failing name_number has_type
one_value_twice = refl

two_default_literals : breaks 5 [] (enum_of Final 32 (literal 0 (pos 0) true ∷ literal 1 (pos 1) true ∷ []))
unfolding type_fault first_deep first_fault failing name_number has_type
two_default_literals = refl

two_flags : valid (bitmask None 3 (flag 0 0 ∷ flag 1 2 ∷ []))
unfolding type_fault first_deep first_fault failing name_number has_type
two_flags = refl

position_past_the_bits : breaks 6 [] (bitmask None 3 (flag 0 3 ∷ []))
unfolding type_fault first_deep first_fault failing name_number has_type
position_past_the_bits = refl

one_position_twice : breaks 6 [] (bitmask None 3 (flag 0 1 ∷ flag 1 1 ∷ []))
unfolding type_fault first_deep first_fault failing name_number has_type
one_position_twice = refl

eight_dimensions : valid (array (1 ∷ 1 ∷ 1 ∷ 1 ∷ 1 ∷ 1 ∷ 1 ∷ 2 ∷ []) Discard octet)
unfolding type_fault first_deep first_fault failing name_number has_type
eight_dimensions = refl

nine_dimensions : breaks 7 [] (array (1 ∷ 1 ∷ 1 ∷ 1 ∷ 1 ∷ 1 ∷ 1 ∷ 1 ∷ 1 ∷ []) Discard octet)
unfolding type_fault first_deep first_fault failing name_number has_type
nine_dimensions = refl

dimension_of_zero : breaks 7 [] (array (2 ∷ 0 ∷ []) Discard octet)
unfolding type_fault first_deep first_fault failing name_number has_type
dimension_of_zero = refl

text_as_map_key : valid (map_of 0 Discard (alias None (str 0)) Discard long)
unfolding type_fault first_deep first_fault failing name_number has_type
text_as_map_key = refl

float_as_map_key : breaks 8 (Step.Member 0 ∷ []) (struct_of (plain 0 (map_of 0 Discard (prim prims.Float32) Discard long) no_members))
unfolding type_fault first_deep first_fault failing name_number has_type
float_as_map_key = refl

float_behind_an_alias : breaks 8 [] (map_of 0 Discard (alias None (prim prims.Float64)) Discard long)
unfolding type_fault first_deep first_fault failing name_number has_type
float_behind_an_alias = refl

appendable_union : valid (union_of Appendable long (case 0 (negsuc 0 ∷ pos 2 ∷ []) false long (case 1 [] true octet no_cases)))
unfolding type_fault first_deep first_fault failing name_number has_type
appendable_union = refl

mutable_union : breaks 9 [] (union_of Mutable long (case 0 (pos 1 ∷ []) false long no_cases))
unfolding type_fault first_deep first_fault failing name_number has_type
mutable_union = refl

text_as_discriminator : breaks 10 [] (union_of Final (str 0) (case 0 (pos 1 ∷ []) false long no_cases))
unfolding type_fault first_deep first_fault failing name_number has_type
text_as_discriminator = refl

label_past_an_octet : breaks 11 [] (union_of Final octet (case 0 (pos 256 ∷ []) false long no_cases))
unfolding type_fault first_deep first_fault failing name_number has_type
label_past_an_octet = refl

label_that_no_literal_has : breaks 11 [] (union_of Final (alias None (enum_of Final 8 (literal 0 (pos 5) false ∷ []))) (case 0 (pos 6 ∷ []) false long no_cases))
unfolding type_fault first_deep first_fault failing name_number has_type
label_that_no_literal_has = refl

one_label_twice : breaks 11 [] (union_of Final long (case 0 (pos 1 ∷ []) false long (case 1 (pos 1 ∷ []) false octet no_cases)))
unfolding type_fault first_deep first_fault failing name_number has_type
one_label_twice = refl

case_without_a_label : breaks 11 [] (union_of Final long (case 0 (pos 1 ∷ []) false long (case 1 [] false octet no_cases)))
unfolding type_fault first_deep first_fault failing name_number has_type
case_without_a_label = refl

two_default_cases : breaks 11 [] (union_of Final long (case 0 (pos 1 ∷ []) true long (case 1 [] true octet no_cases)))
unfolding type_fault first_deep first_fault failing name_number has_type
two_default_cases = refl

default_alone : breaks 11 [] (union_of Final long (case 0 [] true long no_cases))
unfolding type_fault first_deep first_fault failing name_number has_type
default_alone = refl

structure_as_key : valid (struct_of (told 0 0 Discard false true (alias None (struct_of (plain 0 long no_members))) no_members))
unfolding type_fault first_deep first_fault failing name_number has_type
structure_as_key = refl

optional_key : breaks 12 [] (struct_of (told 0 0 Discard true true long no_members))
unfolding type_fault first_deep first_fault failing name_number has_type
optional_key = refl

map_as_key : breaks 12 [] (struct_of (told 0 0 Discard false true (map_of 0 Discard long Discard long) no_members))
unfolding type_fault first_deep first_fault failing name_number has_type
map_as_key = refl

key_with_a_default : breaks 13 [] (struct_of (told 0 0 UseDefault false true long no_members))
unfolding type_fault first_deep first_fault failing name_number has_type
key_with_a_default = refl

heaviest_element : valid (struct_of (plain 0 long (plain 1 (sequence 0 Discard (octets 127)) no_members)))
unfolding type_fault first_deep first_fault failing name_number has_type
heaviest_element = refl

too_heavy_element : breaks 14 (Step.Member 1 ∷ []) (struct_of (plain 0 long (plain 1 (sequence 0 Discard (octets 128)) no_members)))
unfolding type_fault first_deep first_fault failing name_number has_type
too_heavy_element = refl

too_heavy_entry : breaks 14 [] (map_of 0 Discard long Discard (octets 128))
unfolding type_fault first_deep first_fault failing name_number has_type
too_heavy_entry = refl

sixteen_nodes : valid (aliases 15 long)
unfolding type_fault first_deep first_fault failing name_number has_type
sixteen_nodes = refl

seventeen_nodes : breaks 15 [] (aliases 16 long)
unfolding type_fault first_deep first_fault failing name_number has_type
seventeen_nodes = refl

heaviest_type : valid (octets 65535)
unfolding type_fault first_deep first_fault failing name_number has_type
heaviest_type = refl

too_heavy_type : breaks 16 [] (octets 65536)
unfolding type_fault first_deep first_fault failing name_number has_type
too_heavy_type = refl

too_heavy_member : breaks 16 [] (struct_of (plain 0 (octets 65535) no_members))
unfolding type_fault first_deep first_fault failing name_number has_type
too_heavy_member = refl

two_bases : valid (struct_with None (base 1 ∷ base 2 ∷ []) (plain 0 long (plain 1 long (plain 2 long no_members))))
unfolding type_fault first_deep first_fault failing name_number has_type
two_bases = refl

base_of_no_member : breaks 18 [] (struct_with None (base 0 ∷ []) (plain 0 long no_members))
unfolding type_fault first_deep first_fault failing name_number has_type
base_of_no_member = refl

counts_that_stay : breaks 18 [] (struct_with None (base 1 ∷ base 1 ∷ []) (plain 0 long (plain 1 long (plain 2 long no_members))))
unfolding type_fault first_deep first_fault failing name_number has_type
counts_that_stay = refl

no_own_member : breaks 18 [] (struct_with None (base 1 ∷ []) (plain 0 long no_members))
unfolding type_fault first_deep first_fault failing name_number has_type
no_own_member = refl

depth_before_size : breaks 15 (Step.Element ∷ []) (array (65536 ∷ []) Discard (aliases 16 long))
unfolding type_fault first_deep first_fault failing name_number has_type
depth_before_size = refl

first_of_two_members : breaks 7 (Step.Member 4 ∷ []) (struct_of (plain 4 (octets 0) (plain 5 (struct_of no_members) no_members)))
unfolding type_fault first_deep first_fault failing name_number has_type
first_of_two_members = refl

node_before_its_parts : breaks 3 [] (struct_of (plain 0x0FFFFFFF (octets 0) no_members))
unfolding type_fault first_deep first_fault failing name_number has_type
node_before_its_parts = refl
