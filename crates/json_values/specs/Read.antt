-- The value that a JSON text means for a type, or its first fault (this profile's own, over RFC 8259).
use Rattle.std.specs.Prelude.{◌^◌, ℕ, ℤ, pos, List, [], ◌∷◌, length, Bool, false, not, ◌&&◌, ◌||◌, ◌==◌, cond, Option, Some, None, is_some, Result, Ok, Err, bytes_eq}
use Rattle.std.specs.Int.{Width, w32, w64, from_be_bytes}
use Rattle.std.specs.Str.{is_utf8}
use Rattle.hex.specs.Hex.{decode_of, decode_sized}
use Rattle.hex.specs.declared.error.FromHexError.{FromHexError}
use Rattle.serde_json.specs.Data as json
use Rattle.serde_json.specs.Data.{Data, Num}
use Rattle.serde_json.specs.Find.{as_integer, get_member}
use Rattle.serde_json.specs.Read.{read}
use Rattle.serde_json.specs.Events.{items_len}
use Rattle.xt_shapes.specs.declared.leaves.Primitive.{Primitive}
use Rattle.type_trees.specs.declared.types.Literal.{Literal}
use Rattle.xt_shapes.specs.declared.leaves.Step.{Step}
use Rattle.type_trees.specs.Trees.{Tree, prim, str, enumeration, bitmask, sequence, array, map_of, structure, union, alias, Members, no_members, member, Cases, no_cases, one_case}
use Rattle.xt_shapes.specs.Vals.{number_in, Val, int, text, listed, mapped, struct_of, union_of, Slot as Body, absent, present}
use Rattle.xt_shapes.specs.Typing.{of_prim, is_below, is_past, is_text_within, repeats}
use Rattle.xt_shapes.specs.Select.{select}
use Rattle.type_trees.specs.Bridge.{case_shapes}
use Rattle.xt_shapes.specs.Vals.{vals_of, pairs_of, slots_of}
use Rattle.xt_shapes.specs.Shape.{product}
use Rattle.json_values.specs.declared.faults.JsonRule.{JsonRule}
use Rattle.json_values.specs.declared.faults.ValueFault.TheVariants.{NotJson}
use Rattle.json_values.specs.Names.{name_text, is_among, member_names}
use Rattle.json_values.specs.Steps.{Reading, here, beneath, and_then, mapped_to}
use Rattle.json_values.specs.Written.{hex_key, disc_key, value_key}

abbrev pub in_range : (ℤ → Bool) → Option ℤ → Reading Val
in_range fits None = here JsonRule.Range
in_range fits (Some n) = cond (fits n) (Ok (int n)) (here JsonRule.Range)

-- a whole number of 64 bits that fits
abbrev pub whole_of : (ℤ → Bool) → Data → Reading Val
whole_of fits (json.number n) = in_range fits (as_integer n)
whole_of fits _ = here JsonRule.Kind

abbrev pub boolean_of : Data → Reading Val
boolean_of (json.boolean b) = Ok (int (cond b (pos 1) (pos 0)))
boolean_of _ = here JsonRule.Kind

abbrev pub bits_in : Width → Result (List ℕ) FromHexError → Reading Val
bits_in w (Ok octets) = Ok (int (pos (from_be_bytes w octets)))
bits_in w (Err e) = here JsonRule.Text

abbrev pub bits_of : Width → ℕ → Data → Reading Val
bits_of w octets (json.string s) = bits_in w (decode_sized s octets)
bits_of w octets _ = here JsonRule.Kind

abbrev pub prim_of : Primitive → Data → Reading Val
prim_of Primitive.Boolean d = boolean_of d
prim_of Primitive.Float32 d = bits_of w32 4 d
prim_of Primitive.Float64 d = bits_of w64 8 d
prim_of p d = whole_of (of_prim p) d

abbrev pub literal_named : List Literal → List ℕ → Reading Val
literal_named [] s = here JsonRule.Literal
literal_named (l ∷ ls) s = cond (bytes_eq (name_text l.name) s) (Ok (int l.value)) (literal_named ls s)

abbrev pub literal_of : List Literal → Data → Reading Val
literal_of ls (json.string s) = literal_named ls s
literal_of ls _ = here JsonRule.Kind

abbrev pub unless_fault : Option JsonRule → Val → Reading Val
unless_fault None v = Ok v
unless_fault (Some rule) v = here rule

-- octets without NUL, within the bound
abbrev pub octets_of : ℕ → List ℕ → Reading Val
octets_of bound s = cond (is_text_within 0 s) (cond (is_past bound (length s)) (here JsonRule.Bound) (Ok (text s))) (here JsonRule.Text)

abbrev pub decoded : ℕ → Result (List ℕ) FromHexError → Reading Val
decoded bound (Ok octets) = octets_of bound octets
decoded bound (Err e) = here JsonRule.Text

abbrev pub hex_of : ℕ → Option Data → Reading Val
hex_of bound None = here JsonRule.Missing
hex_of bound (Some (json.string s)) = decoded bound (decode_of s)
hex_of bound (Some _) = here JsonRule.Kind

-- some key of the object is none of these names
abbrev pub has_other : List (List ℕ) → json.Members → Bool
has_other names json.no_members = false
has_other names (json.member k d ms) = not (is_among k names) || has_other names ms

abbrev pub text_of : ℕ → Data → Reading Val
text_of bound (json.string s) = octets_of bound s
text_of bound (json.object ms) = cond (has_other (hex_key ∷ []) ms) (here JsonRule.Unknown) (hex_of bound (get_member hex_key ms))
text_of bound _ = here JsonRule.Kind

-- the first fault, or all the values
abbrev pub items_of : (Data → Reading Val) → json.Items → Reading (List Val)
items_of f json.no_items = Ok []
items_of f (json.item d ds) = and_then (beneath Step.Element (f d)) (λ v. mapped_to (λ vs. v ∷ vs) (items_of f ds))

abbrev pub list_of : Bool → JsonRule → (Data → Reading Val) → json.Items → Reading Val
list_of is_wrong rule f ds = cond is_wrong (here rule) (mapped_to (λ vs. listed (vals_of vs)) (items_of f ds))

abbrev pub sequence_of : ℕ → (Data → Reading Val) → Data → Reading Val
sequence_of bound f (json.array ds) = list_of (is_past bound (items_len ds)) JsonRule.Bound f ds
sequence_of bound f _ = here JsonRule.Kind

abbrev pub array_of : List ℕ → (Data → Reading Val) → Data → Reading Val
array_of dims f (json.array ds) = list_of (not (items_len ds == product dims)) JsonRule.Count f ds
array_of dims f _ = here JsonRule.Kind

abbrev pub key_and_value : (Data → Reading Val) → (Data → Reading Val) → Data → Data → Reading (Val × Val)
key_and_value f g k v = and_then (beneath Step.Key (f k)) (λ x. mapped_to (λ y. (x, y)) (beneath Step.Entry (g v)))

abbrev pub pair_of : (Data → Reading Val) → (Data → Reading Val) → Data → Reading (Val × Val)
pair_of f g (json.array (json.item k (json.item v json.no_items))) = key_and_value f g k v
pair_of f g (json.array _) = here JsonRule.Count
pair_of f g _ = here JsonRule.Kind

abbrev pub entries_of : (Data → Reading Val) → (Data → Reading Val) → json.Items → Reading (List (Val × Val))
entries_of f g json.no_items = Ok []
entries_of f g (json.item d ds) = and_then (pair_of f g d) (λ p. mapped_to (λ ps. p ∷ ps) (entries_of f g ds))

abbrev pub if_distinct : List (Val × Val) → Reading Val
if_distinct ps = cond (repeats ps) (here JsonRule.Twice) (Ok (mapped (pairs_of ps)))

abbrev pub map_of_pairs : ℕ → (Data → Reading Val) → (Data → Reading Val) → Data → Reading Val
map_of_pairs bound f g (json.array ds) = cond (is_past bound (items_len ds)) (here JsonRule.Bound) (and_then (entries_of f g ds) if_distinct)
map_of_pairs bound f g _ = here JsonRule.Kind

-- a member that has to be there isn't
abbrev pub has_missing : Members → json.Members → Bool
has_missing no_members os = false
has_missing (member head t ms) os = (not head.optional && not (is_some (get_member (name_text head.name) os))) || has_missing ms os

abbrev pub slot_of : ℕ → (Data → Reading Val) → Option Data → Reading Body
slot_of id f None = Ok absent
slot_of id f (Some d) = mapped_to present (beneath (Step.Member id) (f d))

abbrev pub struct_where : Members → (json.Members → Reading (List Body)) → Data → Reading Val
struct_where ms f (json.object os) =
    cond (has_other (member_names ms) os) (here JsonRule.Unknown)
    (cond (has_missing ms os) (here JsonRule.Missing) (mapped_to (λ bs. struct_of (slots_of bs)) (f os)))
struct_where ms f _ = here JsonRule.Kind

abbrev pub case_of : ℤ → Reading Val → Reading Val
case_of n r = mapped_to (λ v. union_of n (present v)) r

-- a body stands exactly where a case is selected
abbrev pub body_of : ℤ → Option ℕ → (ℕ → Data → Reading Val) → Option Data → Reading Val
body_of n None f None = Ok (union_of n absent)
body_of n None f (Some d) = here JsonRule.Case
body_of n (Some id) f None = here JsonRule.Case
body_of n (Some id) f (Some d) = case_of n (f id d)

abbrev pub with_disc : (Data → Reading Val) → (ℤ → Option Data → Reading Val) → Option Data → Option Data → Reading Val
with_disc f g None body = here JsonRule.Missing
with_disc f g (Some d) body = and_then (beneath Step.Disc (f d)) (λ v. g (number_in v) body)

abbrev pub union_where : (Data → Reading Val) → (ℤ → Option Data → Reading Val) → Data → Reading Val
union_where f g (json.object os) =
    cond (has_other (disc_key ∷ value_key ∷ []) os) (here JsonRule.Unknown) (with_disc f g (get_member disc_key os) (get_member value_key os))
union_where f g _ = here JsonRule.Kind

abbrev mutual
  pub value_of : Tree → Data → Reading Val
  value_of (prim p) d = prim_of p d
  value_of (str bound) d = text_of bound d
  value_of (enumeration name ext bits literals) d = literal_of literals d
  value_of (bitmask name bits flags) d = whole_of (is_below (2 ^ bits)) d
  value_of (sequence bound tc t) d = sequence_of bound (value_of t) d
  value_of (array dims tc t) d = array_of dims (value_of t) d
  value_of (map_of bound kc k vc v) d = map_of_pairs bound (value_of k) (value_of v) d
  value_of (structure head ms) d = struct_where ms (slots_in ms) d
  value_of (union head disc cs) d = union_where (value_of disc) (λ n part. body_of n (select (case_shapes cs) n) (case_reading cs) part) d
  value_of (alias name t) d = value_of t d

  -- the slots in declared order
  pub slots_in : Members → json.Members → Reading (List Body)
  slots_in no_members os = Ok []
  slots_in (member head t ms) os =
      and_then (slot_of head.id (value_of t) (get_member (name_text head.name) os)) (λ b. mapped_to (λ bs. b ∷ bs) (slots_in ms os))

  -- of a value of the case with that id
  pub case_reading : Cases → ℕ → Data → Reading Val
  case_reading no_cases id d = here JsonRule.Case
  case_reading (one_case head t cs) id d = cond (head.id == id) (beneath (Step.Member id) (value_of t d)) (case_reading cs id d)

abbrev pub if_json : Tree → Option Data → Reading Val
if_json t None = Err NotJson
if_json t (Some d) = value_of t d

-- octets that are no UTF-8 are no JSON
abbrev pub json_of : List ℕ → Option Data
json_of octets = cond (is_utf8 octets) (read octets) None

-- what the octets mean for a type
abbrev pub read_as : Tree → List ℕ → Reading Val
read_as t octets = if_json t (json_of octets)
