-- The JSON of a value (this profile's own, over RFC 8259).
use Rattle.std.specs.Prelude.{ℕ, ℤ, pos, negsuc, ◌==◌, List, [], ◌∷◌, cond, Option, Some}
use Rattle.std.specs.Ordering.{int_eq}
use Rattle.std.specs.Int.{Width, w32, w64, to_be_bytes}
use Rattle.std.specs.Str.{is_utf8}
use Rattle.hex.specs.Hex.{encode_lower}
use Rattle.serde_json.specs.Data as json
use Rattle.serde_json.specs.Data.{Data, put}
use Rattle.serde_json.specs.Find.{of_integer}
use Rattle.serde_json.specs.Written.{compact_text}
use Rattle.xt_shapes.specs.declared.leaves.Primitive.{Primitive}
use Rattle.type_trees.specs.declared.types.Literal.{Literal}
use Rattle.type_trees.specs.Trees.{Tree, prim, str, enumeration, bitmask, sequence, array, map_of, structure, union, alias, Members, no_members, member, Cases, no_cases, one_case}
use Rattle.xt_shapes.specs.Vals.{Val, int, text, listed, mapped, struct_of, union_of, Slot as Body, absent, present, Vals, no_vals, one_val, Pairs, no_pairs, one_pair, Slots, no_slots, one_slot}
use Rattle.xt_shapes.specs.Typing.{of_prim}
use Rattle.xt_shapes.specs.Select.{select}
use Rattle.type_trees.specs.Bridge.{case_shapes}
use Rattle.json_values.specs.Names.{name_text}

abbrev pub whole : ℤ → Data
whole n = json.number (of_integer n)

abbrev pub natural : ℤ → ℕ
natural (pos n) = n
natural (negsuc n) = 0

-- the raw bits of a float in hexadecimal, the highest first
abbrev pub bits_text : Width → ℤ → Data
bits_text w n = json.string (encode_lower (to_be_bytes w (natural n)))

abbrev pub held : Primitive → ℤ → Data
held Primitive.Boolean n = json.boolean (int_eq n (pos 1))
held Primitive.Float32 n = bits_text w32 n
held Primitive.Float64 n = bits_text w64 n
held p n = whole n

-- what is no value of the type has no JSON: `null` stands there
abbrev pub prim_data : Primitive → ℤ → Data
prim_data p n = cond (of_prim p n) (held p n) json.null

abbrev pub mask_data : ℤ → Data
mask_data n = cond (of_prim Primitive.Uint64 n) (whole n) json.null

abbrev pub hex_key : List ℕ
hex_key = 104 ∷ 101 ∷ 120 ∷ []

-- octets that are no text go in hexadecimal
abbrev pub text_data : List ℕ → Data
text_data s = cond (is_utf8 s) (json.string s) (json.object (json.member hex_key (json.string (encode_lower s)) json.no_members))

abbrev pub literal_data : List Literal → ℤ → Data
literal_data [] n = json.null
literal_data (l ∷ ls) n = cond (int_eq l.value n) (json.string (name_text l.name)) (literal_data ls n)

abbrev pub int_data : (ℤ → Data) → Val → Data
int_data f (int n) = f n
int_data f _ = json.null

abbrev pub octets_data : Val → Data
octets_data (text s) = text_data s
octets_data _ = json.null

abbrev pub vals_data : (Val → Data) → Vals → json.Items
vals_data f no_vals = json.no_items
vals_data f (one_val v vs) = json.item (f v) (vals_data f vs)

abbrev pub list_data : (Val → Data) → Val → Data
list_data f (listed vs) = json.array (vals_data f vs)
list_data f _ = json.null

abbrev pub pair_data : Data → Data → Data
pair_data k v = json.array (json.item k (json.item v json.no_items))

abbrev pub pairs_data : (Val → Data) → (Val → Data) → Pairs → json.Items
pairs_data f g no_pairs = json.no_items
pairs_data f g (one_pair k v ps) = json.item (pair_data (f k) (g v)) (pairs_data f g ps)

abbrev pub map_data : (Val → Data) → (Val → Data) → Val → Data
map_data f g (mapped ps) = json.array (pairs_data f g ps)
map_data f g _ = json.null

abbrev pub struct_data : (Slots → json.Members) → Val → Data
struct_data f (struct_of ss) = json.object (f ss)
struct_data f _ = json.null

-- a slot that is absent is left out
abbrev pub put_slot : List ℕ → (Val → Data) → Body → json.Members → json.Members
put_slot name f absent found = found
put_slot name f (present v) found = put name (f v) found

abbrev pub with_slot : (Body → json.Members → json.Members) → (Slots → json.Members → json.Members) → Slots → json.Members → json.Members
with_slot f g no_slots found = found
with_slot f g (one_slot b ss) found = g ss (f b found)

abbrev pub disc_key : List ℕ
disc_key = 100 ∷ []

abbrev pub value_key : List ℕ
value_key = 118 ∷ []

-- the body of the case with that id
abbrev pub body_data : Option ℕ → (ℕ → Val → Data) → Body → json.Members
body_data (Some id) f (present v) = json.member value_key (f id v) json.no_members
body_data _ _ _ = json.no_members

abbrev pub union_data : (ℤ → Data) → (ℤ → Body → json.Members) → Val → Data
union_data f g (union_of d b) = json.object (json.member disc_key (f d) (g d b))
union_data f g _ = json.null

abbrev mutual
  pub data_of : Tree → Val → Data
  data_of (prim p) v = int_data (prim_data p) v
  data_of (str bound) v = octets_data v
  data_of (enumeration name ext bits literals) v = int_data (literal_data literals) v
  data_of (bitmask name bits flags) v = int_data mask_data v
  data_of (sequence bound tc t) v = list_data (data_of t) v
  data_of (array dims tc t) v = list_data (data_of t) v
  data_of (map_of bound kc k vc t) v = map_data (data_of k) (data_of t) v
  data_of (structure head ms) v = struct_data (λ ss. slots_data ms ss json.no_members) v
  data_of (union head disc cs) v = union_data (λ d. data_of disc (int d)) (λ d b. body_data (select (case_shapes cs) d) (case_data cs) b) v
  data_of (alias name t) v = data_of t v

  -- the members go in one after another, in the order of their names
  pub slots_data : Members → Slots → json.Members → json.Members
  slots_data no_members ss found = found
  slots_data (member head t ms) ss found = with_slot (put_slot (name_text head.name) (data_of t)) (slots_data ms) ss found

  -- of a value of the case with that id
  pub case_data : Cases → ℕ → Val → Data
  case_data no_cases id v = json.null
  case_data (one_case head t cs) id v = cond (head.id == id) (data_of t v) (case_data cs id v)

-- the text of a value
abbrev pub json_text : Tree → Val → List ℕ
json_text t v = compact_text (data_of t v)
