-- The JSON of a value is a text that can be read, and its tree is the value's.
use Rattle.std.proofs.Common.{◌≡◌, refl, sym, ap, ◌∙◌, ℕ, ℤ, pos, negsuc, ◌≤◌, ◌==◌, List, [], ◌∷◌, Bool, true, false, cond, Option, Some, None, Ok, Ordering, Less, Equal, Greater, IsUtf8, arith}
use Rattle.std.specs.Bool.{⊤}
use Rattle.std.specs.Cmp.Lexicographic.{slice_cmp}
use Rattle.std.specs.Ordering.{nat_cmp, match_ordering, int_eq}
use Rattle.std.specs.Str.{is_utf8}
use Rattle.std.proofs.lemmas.Bool.{and_parts}
use Rattle.std.proofs.lemmas.Str.{IsUtf8-from_is_utf8, IsUtf8-from_ascii}
use Rattle.hex.specs.Hex.{encode_lower}
use Rattle.json.specs.Print.{IsNumber}
use Rattle.json.proofs.Printed.Utf8.{IsUtf8-are_ascii}
use Rattle.json.proofs.Printed.Decimals.{IsNumber-decimal, IsNumber-signed_decimal}
use Rattle.serde_json.specs.Data as json
use Rattle.serde_json.specs.Data.{Data, Num, unsigned, negative, float, put}
use Rattle.serde_json.specs.Written.{number_text, outline, items_outline, members_outline}
use Rattle.serde_json.proofs.Texts.{print-outline}
use Rattle.xt_shapes.specs.declared.leaves.Primitive.{Primitive}
use Rattle.xt_shapes.specs.Lists.{all}
use Rattle.xt_shapes.specs.Select.{select}
use Rattle.xt_shapes.specs.Typing.{of_prim, has_type}
use Rattle.xt_shapes.specs.Vals.{Val, int, text, listed, mapped, struct_of, union_of, Slot as Body, absent, present, Vals, no_vals, one_val, Pairs, no_pairs, one_pair, Slots, no_slots, one_slot}
use Rattle.type_trees.specs.declared.types.Literal.{Literal}
use Rattle.type_trees.specs.Trees.{Tree, prim, str, enumeration, bitmask, sequence, array, map_of, structure, union, alias, Members, no_members, member, Cases, no_cases, one_case}
use Rattle.type_trees.specs.Bridge.{shape, case_shapes}
use Rattle.type_rules.specs.Places.{depth}
use Rattle.type_rules.specs.Valid.{type_fault}
use Rattle.type_rules.proofs.Kept.{limits_kept}
use Rattle.json_values.specs.Names.{name_text, literal_names, has_text_names, members_have_text_names, cases_have_text_names}
use Rattle.json_values.specs.Read.{if_json, read_as}
use Rattle.json_values.specs.Written.{data_of, slots_data, case_data, prim_data, mask_data, held, literal_data, text_data, int_data, octets_data, vals_data, list_data, pairs_data, map_data, struct_data, union_data, body_data, disc_key, value_key, hex_key, json_text}
use Rattle.json_values.proofs.FineData.{sound}
use Rattle.json_values.proofs.Sorted as sorted
use Rattle.json_values.proofs.Sorted.{FineNum, json_back, outline_depth}
use Rattle.json_values.proofs.Utf8.{IsAscii-hex}
use Rattle.dynamic_data.proofs.Back.{back}
use Rattle.dynamic_data.proofs.NameTexts.{type_has_texts}
use Rattle.dynamic_data.proofs.NamesApart.{type_is_faithful}
use Rattle.dynamic_data.proofs.OfNumbers.Parsed.{printed}
use Rattle.dynamic_data.proofs.OfNumbers.Sound.{Fine, FineItems, FineMembers, Sound}

-- ---- values whose strings and keys are texts

abbrev mutual
  IsTexts : Data → Type 0
  IsTexts json.null = ⊤
  IsTexts (json.boolean b) = ⊤
  IsTexts (json.number n) = ⊤
  IsTexts (json.string s) = IsUtf8 s
  IsTexts (json.array ds) = ItemsAreTexts ds
  IsTexts (json.object ms) = MembersAreTexts ms

  ItemsAreTexts : json.Items → Type 0
  ItemsAreTexts json.no_items = ⊤
  ItemsAreTexts (json.item d ds) = IsTexts d × ItemsAreTexts ds

  MembersAreTexts : json.Members → Type 0
  MembersAreTexts json.no_members = ⊤
  MembersAreTexts (json.member k d ms) = IsUtf8 k × IsTexts d × MembersAreTexts ms

abbrev AllTexts : (Val → Data) → Type 0
AllTexts f = (v : Val) → IsTexts (f v)

hex_utf8 : (s : List ℕ) → IsUtf8 (encode_lower s)
hex_utf8 s = IsUtf8-from_ascii (encode_lower s) (IsAscii-hex s)

either : (b : Bool) (x y : Data) → (b ≡ true → IsTexts x) → IsTexts y → IsTexts (cond b x y)
either true x y p q = p refl
either false x y p q = q

held_texts : (p : Primitive) (n : ℤ) → IsTexts (held p n)
held_texts Primitive.Boolean n = tt
held_texts Primitive.Byte n = tt
held_texts Primitive.Int8 n = tt
held_texts Primitive.Uint8 n = tt
held_texts Primitive.Int16 n = tt
held_texts Primitive.Uint16 n = tt
held_texts Primitive.Int32 n = tt
held_texts Primitive.Uint32 n = tt
held_texts Primitive.Int64 n = tt
held_texts Primitive.Uint64 n = tt
held_texts Primitive.Float32 n = hex_utf8 _
held_texts Primitive.Float64 n = hex_utf8 _
held_texts Primitive.Char8 n = tt

prim_texts : (p : Primitive) (n : ℤ) → IsTexts (prim_data p n)
prim_texts p n = either (of_prim p n) (held p n) json.null (λ h. held_texts p n) tt

mask_texts : (n : ℤ) → IsTexts (mask_data n)
mask_texts n = either (of_prim Primitive.Uint64 n) _ json.null (λ h. tt) tt

literal_texts : (ls : List Literal) → all is_utf8 (literal_names ls) ≡ true → (n : ℤ) → IsTexts (literal_data ls n)
literal_texts [] named n = tt
literal_texts (l ∷ ls) named n =
    let parts = and_parts (is_utf8 (name_text l.name)) (all is_utf8 (literal_names ls)) named in
    either (int_eq l.value n) (json.string (name_text l.name)) (literal_data ls n) (λ h. IsUtf8-from_is_utf8 (name_text l.name) parts.0) (literal_texts ls parts.1 n)

key_utf8 : IsUtf8 hex_key
key_utf8 = IsUtf8-are_ascii hex_key refl

text_texts : (s : List ℕ) → IsTexts (text_data s)
text_texts s = either (is_utf8 s) (json.string s) _ (IsUtf8-from_is_utf8 s) (key_utf8, hex_utf8 s, tt)

-- ---- values of each kind

ints_texts : (f : ℤ → Data) → ((n : ℤ) → IsTexts (f n)) → AllTexts (int_data f)
ints_texts f h (int n) = h n
ints_texts f h (text s) = tt
ints_texts f h (listed vs) = tt
ints_texts f h (mapped ps) = tt
ints_texts f h (struct_of ss) = tt
ints_texts f h (union_of d b) = tt

octets_texts : AllTexts octets_data
octets_texts (int n) = tt
octets_texts (text s) = text_texts s
octets_texts (listed vs) = tt
octets_texts (mapped ps) = tt
octets_texts (struct_of ss) = tt
octets_texts (union_of d b) = tt

vals_texts : (f : Val → Data) → AllTexts f → (vs : Vals) → ItemsAreTexts (vals_data f vs)
vals_texts f h no_vals = tt
vals_texts f h (one_val v vs) = (h v, vals_texts f h vs)

lists_texts : (f : Val → Data) → AllTexts f → AllTexts (list_data f)
lists_texts f h (int n) = tt
lists_texts f h (text s) = tt
lists_texts f h (listed vs) = vals_texts f h vs
lists_texts f h (mapped ps) = tt
lists_texts f h (struct_of ss) = tt
lists_texts f h (union_of d b) = tt

pairs_texts : (f g : Val → Data) → AllTexts f → AllTexts g → (ps : Pairs) → ItemsAreTexts (pairs_data f g ps)
pairs_texts f g hf hg no_pairs = tt
pairs_texts f g hf hg (one_pair k v ps) = ((hf k, (hg v, tt)), pairs_texts f g hf hg ps)

maps_texts : (f g : Val → Data) → AllTexts f → AllTexts g → AllTexts (map_data f g)
maps_texts f g hf hg (int n) = tt
maps_texts f g hf hg (text s) = tt
maps_texts f g hf hg (listed vs) = tt
maps_texts f g hf hg (mapped ps) = pairs_texts f g hf hg ps
maps_texts f g hf hg (struct_of ss) = tt
maps_texts f g hf hg (union_of d b) = tt

put_by : (o : Ordering) (a b c : json.Members) → MembersAreTexts a → MembersAreTexts b → MembersAreTexts c → MembersAreTexts (match_ordering o a b c)
put_by Less a b c ha hb hc = ha
put_by Equal a b c ha hb hc = hb
put_by Greater a b c ha hb hc = hc

put_texts : (k : List ℕ) (d : Data) (ms : json.Members) → IsUtf8 k → IsTexts d → MembersAreTexts ms → MembersAreTexts (put k d ms)
put_texts k d json.no_members key one more = (key, one, tt)
put_texts k d (json.member l e ms) key one more =
    put_by (slice_cmp nat_cmp k l) (json.member k d (json.member l e ms)) (json.member l d ms) (json.member l e (put k d ms))
    (key, one, more) (more.0, one, more.2) (more.0, more.1, put_texts k d ms key one more.2)

structs_texts : (f : Slots → json.Members) → ((ss : Slots) → MembersAreTexts (f ss)) → AllTexts (struct_data f)
structs_texts f h (int n) = tt
structs_texts f h (text s) = tt
structs_texts f h (listed vs) = tt
structs_texts f h (mapped ps) = tt
structs_texts f h (struct_of ss) = h ss
structs_texts f h (union_of d b) = tt

body_texts : (id : Option ℕ) (f : ℕ → Val → Data) → ((i : ℕ) → AllTexts (f i)) → (b : Body) → MembersAreTexts (body_data id f b)
body_texts None f h absent = tt
body_texts None f h (present v) = tt
body_texts (Some id) f h absent = tt
body_texts (Some id) f h (present v) = (IsUtf8-are_ascii value_key refl, h id v, tt)

unions_texts : (f : ℤ → Data) (g : ℤ → Body → json.Members) → ((d : ℤ) → IsTexts (f d)) → ((d : ℤ) (b : Body) → MembersAreTexts (g d b)) → AllTexts (union_data f g)
unions_texts f g hf hg (int n) = tt
unions_texts f g hf hg (text s) = tt
unions_texts f g hf hg (listed vs) = tt
unions_texts f g hf hg (mapped ps) = tt
unions_texts f g hf hg (struct_of ss) = tt
unions_texts f g hf hg (union_of d b) = (IsUtf8-are_ascii disc_key refl, hf d, hg d b)

-- ---- every type

mutual
  texts : (t : Tree) → has_text_names t ≡ true → AllTexts (data_of t)
  texts (prim p) named = ints_texts (prim_data p) (prim_texts p)
  texts (str bound) named = octets_texts
  texts (enumeration name ext bits ls) named = ints_texts (literal_data ls) (literal_texts ls named)
  texts (bitmask name bits flags) named = ints_texts mask_data mask_texts
  texts (sequence bound tc t) named = lists_texts (data_of t) (texts t named)
  texts (array dims tc t) named = lists_texts (data_of t) (texts t named)
  texts (map_of bound kc k vc t) named =
      let parts = and_parts (has_text_names k) (has_text_names t) named in
      maps_texts (data_of k) (data_of t) (texts k parts.0) (texts t parts.1)
  texts (structure head ms) named = structs_texts (λ ss. slots_data ms ss json.no_members) (λ ss. slots_texts ms named ss json.no_members tt)
  texts (union head disc cs) named =
      let parts = and_parts (has_text_names disc) (cases_have_text_names cs) named in
      unions_texts (λ d. data_of disc (int d)) (λ d b. body_data (select (case_shapes cs) d) (case_data cs) b) (λ d. texts disc parts.0 (int d))
      (λ d b. body_texts (select (case_shapes cs) d) (case_data cs) (cases_texts cs parts.1) b)
  texts (alias name t) named = texts t named

  slots_texts : (ms : Members) → members_have_text_names ms ≡ true → (ss : Slots) (found : json.Members) → MembersAreTexts found → MembersAreTexts (slots_data ms ss found)
  slots_texts no_members named ss found h = h
  slots_texts (member head t ms) named no_slots found h = h
  slots_texts (member head t ms) named (one_slot absent ss) found h =
      let parts = and_parts (is_utf8 (name_text head.name)) _ named in
      let later = and_parts (has_text_names t) (members_have_text_names ms) parts.1 in
      slots_texts ms later.1 ss found h
  slots_texts (member head t ms) named (one_slot (present v) ss) found h =
      let parts = and_parts (is_utf8 (name_text head.name)) _ named in
      let later = and_parts (has_text_names t) (members_have_text_names ms) parts.1 in
      slots_texts ms later.1 ss _ (put_texts (name_text head.name) (data_of t v) found (IsUtf8-from_is_utf8 (name_text head.name) parts.0) (texts t later.0 v) h)

  cases_texts : (cs : Cases) → cases_have_text_names cs ≡ true → (id : ℕ) → AllTexts (case_data cs id)
  cases_texts no_cases named id v = tt
  cases_texts (one_case head t cs) named id v =
      let parts = and_parts (has_text_names t) (cases_have_text_names cs) named in
      either (head.id == id) (data_of t v) (case_data cs id v) (λ h. texts t parts.0 v) (cases_texts cs parts.1 id v)

-- ---- the tree of a value

number_is : (n : Num) → FineNum n → IsNumber (number_text n)
number_is (unsigned n) h = IsNumber-decimal n h
number_is (negative (pos n)) h = absurd h
number_is (negative (negsuc n)) h = IsNumber-signed_decimal (negsuc n) h
number_is (float x) h = absurd h

mutual
  fine : (d : Data) → sorted.Fine d → IsTexts d → Fine (outline d)
  fine json.null h q = tt
  fine (json.boolean b) h q = tt
  fine (json.number n) h q = number_is n h
  fine (json.string s) h q = q
  fine (json.array ds) h q = fine_items ds h q
  fine (json.object ms) h q = fine_members ms h.1 q

  fine_items : (ds : json.Items) → sorted.FineItems ds → ItemsAreTexts ds → FineItems (items_outline ds)
  fine_items json.no_items h q = tt
  fine_items (json.item d ds) h q = (fine d h.0 q.0, fine_items ds h.1 q.1)

  fine_members : (ms : json.Members) → sorted.FineMembers ms → MembersAreTexts ms → FineMembers (members_outline ms)
  fine_members json.no_members h q = tt
  fine_members (json.member k d ms) h q = (q.0, fine d h.0 q.1, fine_members ms h.1 q.2)

pub written_sound : (t : Tree) (v : Val) → depth t ≤ 16 → has_text_names t ≡ true → Sound (outline (data_of t v))
written_sound t v shallow named =
    let s = sound t v in
    let same = outline_depth (data_of t v) in
    (fine (data_of t v) s.0 (texts t named v), omega (arith, s.1, same, shallow))

-- a value is read from its JSON
pub json_is_read : (t : Tree) (v : Val) → type_fault t ≡ None → has_type (shape t) v ≡ true → read_as t (json_text t v) ≡ Ok v
json_is_read t v valid has =
    let d = data_of t v in
    ap (read_as t) (sym (print-outline d)) ∙ printed t (outline d) (written_sound t v (limits_kept t valid).0 (type_has_texts t valid))
    ∙ ap (if_json t) (json_back d (sound t v).0) ∙ back t (type_is_faithful t valid) v has
