-- Worked values in JSON, what texts are refused, and parts that names reach, checked by computation (this profile's own).
use Rattle.std.specs.Prelude.{◌≡◌, ℕ, ℤ, pos, negsuc, List, [], ◌∷◌, Bool, true, false, Some, None, Ok, Err, codes}
use Rattle.std.proofs.Common.{refl}
use Rattle.hex.specs.Hex.{encode_with, decode_pairs}
use Rattle.serde_json.specs.Data as json
use Rattle.serde_json.specs.Data.{Data}
use Rattle.xt_shapes.specs.declared.leaves.Ext.TheVariants.{Final}
use Rattle.xt_shapes.specs.declared.leaves.Primitive.TheVariants as prims
use Rattle.xt_shapes.specs.declared.leaves.Step.{Step}
use Rattle.xt_shapes.specs.declared.leaves.Try.TheVariants.{Discard}
use Rattle.xt_shapes.specs.Vals.{Val, int, text, struct_of, union_of, mapped, absent, present, no_slots, one_slot, no_pairs, one_pair}
use Rattle.type_trees.specs.declared.types.Name.{Name}
use Rattle.type_trees.specs.declared.types.Literal.{Literal}
use Rattle.type_trees.specs.Trees.{Tree, prim, str, enumeration, map_of, structure, union, Members, no_members, member, no_cases, one_case}
use Rattle.json_values.specs.declared.faults.JsonRule.{JsonRule}
use Rattle.json_values.specs.declared.faults.ValueFault.TheVariants.{Wrong}
use Rattle.json_values.specs.Names.{name_text}
use Rattle.json_values.specs.Steps.{Reading}
use Rattle.json_values.specs.Written.{data_of}
use Rattle.json_values.specs.Read.{value_of}
use Rattle.dynamic_data.specs.Reach.{reached}

-- ---- types: a structure of `b`, an int64, and then an optional `a`, a byte; colors, and a union over them

abbrev declared : ℕ → List ℕ → Bool → Tree → Members → Members
declared id name optional t ms = member (record { id = id; name = Name.Full name; tc = Discard; optional = optional; must_understand = false; key = false }) t ms

abbrev flat : Tree
flat = structure (record { name = None; ext = Final; nested = false; hashed_ids = false; bases = [] }) (declared 4 (codes "b") false (prim prims.Int64) (declared 2 (codes "a") true (prim prims.Byte) no_members))

abbrev literal : List ℕ → ℤ → Literal
literal name value = record { name = Name.Full name; value = value; is_default = false }

abbrev colors : Tree
colors = enumeration None Final 32 (literal (codes "RED") (pos 0) ∷ literal (codes "GREEN") (pos 1) ∷ [])

abbrev by_color : Tree
by_color = union (record { name = None; ext = Final; nested = false; hashed_ids = false; disc_key = false }) colors (one_case (record { id = 9; name = Name.Full (codes "r"); tc = Discard; labels = pos 0 ∷ []; is_default = false }) (prim prims.Int8) no_cases)

abbrev numbered : Tree
numbered = map_of 0 Discard (prim prims.Int8) Discard (str 2)

unfoldable computed : ℕ
unfolding encode_with decode_pairs
computed = 0

-- ---- values as JSON

-- keys stand in the order of their octets
members_in_order : data_of flat (struct_of (one_slot (present (int (negsuc 0))) (one_slot (present (int (pos 7))) no_slots)))
    ≡ json.object (json.member (codes "a") (json.number (json.unsigned 7)) (json.member (codes "b") (json.number (json.negative (negsuc 0))) json.no_members))
members_in_order = refl

absent_left_out : data_of flat (struct_of (one_slot (present (int (pos 3))) (one_slot absent no_slots))) ≡ json.object (json.member (codes "b") (json.number (json.unsigned 3)) json.no_members)
absent_left_out = refl

union_with_body : data_of by_color (union_of (pos 0) (present (int (pos 5)))) ≡ json.object (json.member (codes "d") (json.string (codes "RED")) (json.member (codes "v") (json.number (json.unsigned 5)) json.no_members))
union_with_body = refl

union_without_body : data_of by_color (union_of (pos 1) absent) ≡ json.object (json.member (codes "d") (json.string (codes "GREEN")) json.no_members)
union_without_body = refl

float_bits : data_of (prim prims.Float32) (int (pos 0x3f80000a)) ≡ json.string (codes "3f80000a")
unfolding computed
float_bits = refl

hashed_name : name_text (Name.Hashed 0x0fa5dd70) ≡ codes "#70dda50f"
unfolding computed
hashed_name = refl

-- ---- JSON as values, and first faults

abbrev wrong : List Step → JsonRule → Reading Val
wrong path rule = Err (Wrong path rule)

abbrev one : Data
one = json.number (json.unsigned 1)

read_again : value_of flat (json.object (json.member (codes "b") one json.no_members)) ≡ Ok (struct_of (one_slot (present (int (pos 1))) (one_slot absent no_slots)))
read_again = refl

unknown_key : value_of flat (json.object (json.member (codes "c") one json.no_members)) ≡ wrong [] JsonRule.Unknown
unknown_key = refl

missing_member : value_of flat (json.object (json.member (codes "a") one json.no_members)) ≡ wrong [] JsonRule.Missing
missing_member = refl

number_past_range : value_of flat (json.object (json.member (codes "a") (json.number (json.unsigned 256)) (json.member (codes "b") one json.no_members))) ≡ wrong (Step.Member 2 ∷ []) JsonRule.Range
number_past_range = refl

-- the discriminator's fault goes before the missing body's
no_literal : value_of by_color (json.object (json.member (codes "d") (json.string (codes "BLUE")) json.no_members)) ≡ wrong (Step.Disc ∷ []) JsonRule.Literal
no_literal = refl

no_body : value_of by_color (json.object (json.member (codes "d") (json.string (codes "RED")) json.no_members)) ≡ wrong [] JsonRule.Case
no_body = refl

body_past_range : value_of by_color (json.object (json.member (codes "d") (json.string (codes "RED")) (json.member (codes "v") (json.number (json.unsigned 128)) json.no_members))) ≡ wrong (Step.Member 9 ∷ []) JsonRule.Range
body_past_range = refl

hexadecimal_of_either_case : value_of (str 0) (json.object (json.member (codes "hex") (json.string (codes "fFA0")) json.no_members)) ≡ Ok (text (255 ∷ 160 ∷ []))
unfolding computed
hexadecimal_of_either_case = refl

nul_in_text : value_of (str 1) (json.string (65 ∷ 0 ∷ [])) ≡ wrong [] JsonRule.Text
nul_in_text = refl

abbrev entry : ℕ → List ℕ → json.Items → json.Items
entry key value ds = json.item (json.array (json.item (json.number (json.unsigned key)) (json.item (json.string value) json.no_items))) ds

key_twice : value_of numbered (json.array (entry 1 [] (entry 1 [] json.no_items))) ≡ wrong [] JsonRule.Twice
key_twice = refl

-- a later entry's fault goes before a repeated key
entry_past_bound : value_of numbered (json.array (entry 1 [] (entry 1 (codes "abc") json.no_items))) ≡ wrong (Step.Entry ∷ []) JsonRule.Bound
entry_past_bound = refl

two_entries : value_of numbered (json.array (entry 1 [] (entry 2 (codes "ab") json.no_items))) ≡ Ok (mapped (one_pair (int (pos 1)) (text []) (one_pair (int (pos 2)) (text (codes "ab")) no_pairs)))
two_entries = refl

-- ---- values by member names

by_name : reached flat (codes "b" ∷ []) (struct_of (one_slot (present (int (pos 3))) (one_slot absent no_slots))) ≡ Some (int (pos 3))
by_name = refl

absent_by_name : reached flat (codes "a" ∷ []) (struct_of (one_slot (present (int (pos 3))) (one_slot absent no_slots))) ≡ None
absent_by_name = refl
