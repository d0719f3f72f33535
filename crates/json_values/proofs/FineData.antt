-- The JSON of a value has no float, its objects are in order, and it is at most twice as deep as the type.
use Rattle.std.proofs.Common.{◌≡◌, refl, ℕ, suc, ◌+◌, ◌*◌, ◌^◌, ◌≤◌, ◌==◌, ℤ, pos, negsuc, List, [], ◌∷◌, Bool, true, false, cond, Option, Some, None, Ordering, Less, Equal, Greater, max, lit≤, arith}
use borrow.Author.Tests.{ltb-true}
use Rattle.std.specs.Cmp.Lexicographic.{slice_cmp}
use Rattle.std.specs.Ordering.{nat_cmp, match_ordering, int_eq}
use Rattle.std.specs.Str.{is_utf8}
use Rattle.serde_json.specs.Data as json
use Rattle.serde_json.specs.Data.{Data, put, depth, items_depth, members_depth}
use Rattle.serde_json.specs.Find.{of_integer}
use Rattle.xt_shapes.specs.declared.leaves.Primitive.{Primitive}
use Rattle.type_trees.specs.declared.types.Literal.{Literal}
use Rattle.type_trees.specs.Trees.{Tree, prim, str, enumeration, bitmask, sequence, array, map_of, structure, union, alias, Members, no_members, member, Cases, no_cases, one_case}
use Rattle.xt_shapes.specs.Vals.{Val, int, text, listed, mapped, struct_of, union_of, Slot as Body, absent, present, Vals, no_vals, one_val, Pairs, no_pairs, one_pair, Slots, no_slots, one_slot}
use Rattle.xt_shapes.specs.Typing.{of_prim, in_range}
use Rattle.xt_shapes.specs.Sizes.{half}
use Rattle.xt_shapes.specs.Select.{select}
use Rattle.type_trees.specs.Bridge.{case_shapes}
use Rattle.type_rules.specs.Places as valid
use Rattle.json_values.specs.Names.{name_text}
use Rattle.json_values.specs.Written.{data_of, slots_data, case_data, prim_data, mask_data, held, whole, literal_data, int_data, octets_data, vals_data, list_data, pairs_data, map_data, struct_data, union_data, body_data, disc_key}
use Rattle.json_values.proofs.Sorted.{Sorted, sorted_put, Fine, FineNum, FineItems, FineMembers}

-- no float, in order, and not too deep
abbrev pub Sound : ℕ → Data → Type 0
Sound n d = Fine d × (depth d ≤ n)

abbrev SoundItems : ℕ → json.Items → Type 0
SoundItems n ds = FineItems ds × (items_depth ds ≤ n)

abbrev SoundMembers : ℕ → json.Members → Type 0
SoundMembers n ms = Sorted ms × FineMembers ms × (members_depth ms ≤ n)

sound_if : (b : Bool) (n : ℕ) (d : Data) → (b ≡ true → Sound n d) → Sound n (cond b d json.null)
sound_if true n d h = h refl
sound_if false n d h = (tt, omega arith)

-- ---- numbers

unsigned_fine : (k : ℕ) (n : ℤ) → 256 ^ k ≤ 18446744073709551616 → in_range k false n ≡ true → FineNum (of_integer n)
unsigned_fine k (pos m) small h = let this = ltb-true m (256 ^ k) h in omega arith
unsigned_fine k (negsuc m) small h = cc h

signed_fine : (k : ℕ) (n : ℤ) → half k ≤ 9223372036854775808 → in_range k true n ≡ true → FineNum (of_integer n)
signed_fine k (pos m) small h = let this = ltb-true m (half k) h in omega arith
signed_fine k (negsuc m) small h = let this = ltb-true m (half k) h in omega arith

held_sound : (p : Primitive) (n : ℤ) → of_prim p n ≡ true → Sound 0 (held p n)
held_sound Primitive.Boolean n h = (tt, omega arith)
held_sound Primitive.Byte n h = (unsigned_fine 1 n (lit≤ tt) h, omega arith)
held_sound Primitive.Int8 n h = (signed_fine 1 n (lit≤ tt) h, omega arith)
held_sound Primitive.Uint8 n h = (unsigned_fine 1 n (lit≤ tt) h, omega arith)
held_sound Primitive.Int16 n h = (signed_fine 2 n (lit≤ tt) h, omega arith)
held_sound Primitive.Uint16 n h = (unsigned_fine 2 n (lit≤ tt) h, omega arith)
held_sound Primitive.Int32 n h = (signed_fine 4 n (lit≤ tt) h, omega arith)
held_sound Primitive.Uint32 n h = (unsigned_fine 4 n (lit≤ tt) h, omega arith)
held_sound Primitive.Int64 n h = (signed_fine 8 n (lit≤ tt) h, omega arith)
held_sound Primitive.Uint64 n h = (unsigned_fine 8 n (lit≤ tt) h, omega arith)
held_sound Primitive.Float32 n h = (tt, omega arith)
held_sound Primitive.Float64 n h = (tt, omega arith)
held_sound Primitive.Char8 n h = (unsigned_fine 1 n (lit≤ tt) h, omega arith)

prim_sound : (p : Primitive) (n : ℤ) → Sound 2 (prim_data p n)
prim_sound p n = sound_if (of_prim p n) 2 (held p n) (λ h. let s = held_sound p n h in (s.0, omega arith))

mask_sound : (n : ℤ) → Sound 2 (mask_data n)
mask_sound n = sound_if (of_prim Primitive.Uint64 n) 2 (whole n) (λ h. (unsigned_fine 8 n (lit≤ tt) h, omega arith))

literal_by : (b : Bool) (s : List ℕ) (d : Data) → Sound 2 d → Sound 2 (cond b (json.string s) d)
literal_by true s d h = (tt, omega arith)
literal_by false s d h = h

literal_sound : (ls : List Literal) (n : ℤ) → Sound 2 (literal_data ls n)
literal_sound [] n = (tt, omega arith)
literal_sound (l ∷ ls) n = literal_by (int_eq l.value n) (name_text l.name) (literal_data ls n) (literal_sound ls n)

text_by : (b : Bool) (k s u : List ℕ) → Sound 2 (cond b (json.string s) (json.object (json.member k (json.string u) json.no_members)))
text_by true k s u = (tt, omega arith)
text_by false k s u = (((tt, tt), (tt, tt)), omega arith)

-- ---- parts

abbrev AllSound : ℕ → (Val → Data) → Type 0
AllSound n f = (v : Val) → Sound n (f v)

ints_sound : (n : ℕ) (f : ℤ → Data) → ((z : ℤ) → Sound n (f z)) → AllSound n (int_data f)
ints_sound n f h (int z) = h z
ints_sound n f h (text s) = (tt, omega arith)
ints_sound n f h (listed vs) = (tt, omega arith)
ints_sound n f h (mapped ps) = (tt, omega arith)
ints_sound n f h (struct_of ss) = (tt, omega arith)
ints_sound n f h (union_of d b) = (tt, omega arith)

texts_sound : AllSound 2 octets_data
texts_sound (int z) = (tt, omega arith)
texts_sound (text s) = text_by (is_utf8 s) _ _ _
texts_sound (listed vs) = (tt, omega arith)
texts_sound (mapped ps) = (tt, omega arith)
texts_sound (struct_of ss) = (tt, omega arith)
texts_sound (union_of d b) = (tt, omega arith)

vals_sound : (n : ℕ) (f : Val → Data) → AllSound n f → (vs : Vals) → SoundItems n (vals_data f vs)
vals_sound n f h no_vals = (tt, omega arith)
vals_sound n f h (one_val v vs) =
    let one = h v in
    let more = vals_sound n f h vs in
    ((one.0, more.0), omega (arith, one.1, more.1))

lists_sound : (n : ℕ) (f : Val → Data) → AllSound n f → AllSound (suc n) (list_data f)
lists_sound n f h (int z) = (tt, omega arith)
lists_sound n f h (text s) = (tt, omega arith)
lists_sound n f h (listed vs) = let more = vals_sound n f h vs in (more.0, omega (arith, more.1))
lists_sound n f h (mapped ps) = (tt, omega arith)
lists_sound n f h (struct_of ss) = (tt, omega arith)
lists_sound n f h (union_of d b) = (tt, omega arith)

pairs_sound : (n : ℕ) (f g : Val → Data) → AllSound n f → AllSound n g → (ps : Pairs) → SoundItems (suc n) (pairs_data f g ps)
pairs_sound n f g hf hg no_pairs = (tt, omega arith)
pairs_sound n f g hf hg (one_pair k v ps) =
    let key = hf k in
    let value = hg v in
    let more = pairs_sound n f g hf hg ps in
    (((key.0, (value.0, tt)), more.0), omega (arith, key.1, value.1, more.1))

maps_sound : (n : ℕ) (f g : Val → Data) → AllSound n f → AllSound n g → AllSound (suc (suc n)) (map_data f g)
maps_sound n f g hf hg (int z) = (tt, omega arith)
maps_sound n f g hf hg (text s) = (tt, omega arith)
maps_sound n f g hf hg (listed vs) = (tt, omega arith)
maps_sound n f g hf hg (mapped ps) = let more = pairs_sound n f g hf hg ps in (more.0, omega (arith, more.1))
maps_sound n f g hf hg (struct_of ss) = (tt, omega arith)
maps_sound n f g hf hg (union_of d b) = (tt, omega arith)

put_by : (n : ℕ) (o : Ordering) (a b c : json.Members) → FineMembers a × (members_depth a ≤ n) → FineMembers b × (members_depth b ≤ n) → FineMembers c × (members_depth c ≤ n)
    → FineMembers (match_ordering o a b c) × (members_depth (match_ordering o a b c) ≤ n)
put_by n Less a b c ha hb hc = ha
put_by n Equal a b c ha hb hc = hb
put_by n Greater a b c ha hb hc = hc

put_fine : (n : ℕ) (k : List ℕ) (d : Data) (ms : json.Members) → Sound n d → FineMembers ms × (members_depth ms ≤ n) → FineMembers (put k d ms) × (members_depth (put k d ms) ≤ n)
put_fine n k d json.no_members one more = ((one.0, tt), omega (arith, one.1))
put_fine n k d (json.member l e ms) one more =
    let later : members_depth ms ≤ n = omega (arith, more.1) in
    let rest = put_fine n k d ms one (more.0.1, later) in
    put_by n (slice_cmp nat_cmp k l) (json.member k d (json.member l e ms)) (json.member l d ms) (json.member l e (put k d ms))
    ((one.0, more.0), omega (arith, one.1, more.1)) ((one.0, more.0.1), omega (arith, one.1, more.1)) ((more.0.0, rest.0), omega (arith, rest.1, more.1))

put_sound : (n : ℕ) (k : List ℕ) (d : Data) (ms : json.Members) → Sound n d → SoundMembers n ms → SoundMembers n (put k d ms)
put_sound n k d ms one more = let rest = put_fine n k d ms one (more.1, more.2) in (sorted_put k d ms more.0, rest.0, rest.1)

structs_sound : (n : ℕ) (f : Slots → json.Members) → ((ss : Slots) → SoundMembers n (f ss)) → AllSound (suc n) (struct_data f)
structs_sound n f h (int z) = (tt, omega arith)
structs_sound n f h (text s) = (tt, omega arith)
structs_sound n f h (listed vs) = (tt, omega arith)
structs_sound n f h (mapped ps) = (tt, omega arith)
structs_sound n f h (struct_of ss) = let more = h ss in ((more.0, more.1), omega (arith, more.2))
structs_sound n f h (union_of d b) = (tt, omega arith)

-- ---- unions

body_sound : (n : ℕ) (x : Data) (id : Option ℕ) (f : ℕ → Val → Data) (b : Body) → Sound n x → ((i : ℕ) → AllSound n (f i)) → SoundMembers n (json.member disc_key x (body_data id f b))
body_sound n x None f absent one h = ((tt, tt), (one.0, tt), omega (arith, one.1))
body_sound n x None f (present v) one h = ((tt, tt), (one.0, tt), omega (arith, one.1))
body_sound n x (Some id) f absent one h = ((tt, tt), (one.0, tt), omega (arith, one.1))
body_sound n x (Some id) f (present v) one h =
    let body = h id v in
    (((refl, tt), (tt, tt)), (one.0, (body.0, tt)), omega (arith, one.1, body.1))

case_by : (n : ℕ) (is : Bool) (x y : Data) → Sound n x → Sound n y → Sound n (cond is x y)
case_by n true x y hx hy = hx
case_by n false x y hx hy = hy

unions_sound : (n : ℕ) (f : ℤ → Data) (g : ℤ → Body → json.Members) → ((d : ℤ) (b : Body) → SoundMembers n (json.member disc_key (f d) (g d b))) → AllSound (suc n) (union_data f g)
unions_sound n f g h (int z) = (tt, omega arith)
unions_sound n f g h (text s) = (tt, omega arith)
unions_sound n f g h (listed vs) = (tt, omega arith)
unions_sound n f g h (mapped ps) = (tt, omega arith)
unions_sound n f g h (struct_of ss) = (tt, omega arith)
unions_sound n f g h (union_of d b) = let more = h d b in ((more.0, more.1), omega (arith, more.2))

-- ---- every type

deeper : (m n : ℕ) (f : Val → Data) → m ≤ n → AllSound m f → AllSound n f
deeper m n f less h v = let s = h v in (s.0, omega (arith, s.1))

mutual
  pub sound : (t : Tree) → AllSound (2 * valid.depth t) (data_of t)
  sound (prim p) = ints_sound 2 (prim_data p) (prim_sound p)
  sound (str bound) = texts_sound
  sound (enumeration name ext bits ls) = ints_sound 2 (literal_data ls) (literal_sound ls)
  sound (bitmask name bits flags) = ints_sound 2 mask_data mask_sound
  sound (sequence bound tc t) = deeper (suc (2 * valid.depth t)) (2 * (1 + valid.depth t)) (list_data (data_of t)) (omega arith) (lists_sound (2 * valid.depth t) (data_of t) (sound t))
  sound (array dims tc t) = deeper (suc (2 * valid.depth t)) (2 * (1 + valid.depth t)) (list_data (data_of t)) (omega arith) (lists_sound (2 * valid.depth t) (data_of t) (sound t))
  sound (map_of bound kc k vc t) =
      let n = 2 * max (valid.depth k) (valid.depth t) in
      deeper (suc (suc n)) (2 * (1 + max (valid.depth k) (valid.depth t))) (map_data (data_of k) (data_of t)) (omega arith)
      (maps_sound n (data_of k) (data_of t) (deeper (2 * valid.depth k) n (data_of k) (omega arith) (sound k)) (deeper (2 * valid.depth t) n (data_of t) (omega arith) (sound t)))
  sound (structure head ms) =
      let n = 2 * valid.members_depth ms in
      deeper (suc n) (2 * (1 + valid.members_depth ms)) (struct_data (λ ss. slots_data ms ss json.no_members)) (omega arith)
      (structs_sound n (λ ss. slots_data ms ss json.no_members) (λ ss. slots_sound n ms ss json.no_members (omega arith) (tt, tt, omega arith)))
  sound (union head disc cs) =
      let n = 2 * max (valid.depth disc) (valid.cases_depth cs) in
      deeper (suc n) (2 * (1 + max (valid.depth disc) (valid.cases_depth cs))) (data_of (union head disc cs)) (omega arith)
      (unions_sound n (λ d. data_of disc (int d)) (λ d b. body_data (select (case_shapes cs) d) (case_data cs) b)
      (λ d b. body_sound n (data_of disc (int d)) (select (case_shapes cs) d) (case_data cs) b (deeper (2 * valid.depth disc) n (data_of disc) (omega arith) (sound disc) (int d)) (cases_sound n cs (omega arith))))
  sound (alias name t) = deeper (2 * valid.depth t) (2 * (1 + valid.depth t)) (data_of t) (omega arith) (sound t)

  slots_sound : (n : ℕ) (ms : Members) (ss : Slots) (found : json.Members) → 2 * valid.members_depth ms ≤ n → SoundMembers n found → SoundMembers n (slots_data ms ss found)
  slots_sound n no_members ss found deep h = h
  slots_sound n (member head t ms) no_slots found deep h = h
  slots_sound n (member head t ms) (one_slot absent ss) found deep h = slots_sound n ms ss found (omega arith) h
  slots_sound n (member head t ms) (one_slot (present v) ss) found deep h =
      let one = sound t v in
      let less : depth (data_of t v) ≤ n = omega (arith, one.1, deep) in
      slots_sound n ms ss (put (name_text head.name) (data_of t v) found) (omega arith) (put_sound n (name_text head.name) (data_of t v) found (one.0, less) h)

  cases_sound : (n : ℕ) (cs : Cases) → 2 * valid.cases_depth cs ≤ n → (id : ℕ) → AllSound n (case_data cs id)
  cases_sound n no_cases deep id v = (tt, omega arith)
  cases_sound n (one_case head t cs) deep id v =
      case_by n (head.id == id) (data_of t v) (case_data cs id v) (deeper (2 * valid.depth t) n (data_of t) (omega arith) (sound t) v) (cases_sound n cs (omega arith) id v)
