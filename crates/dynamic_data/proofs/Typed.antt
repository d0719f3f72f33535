-- A value that is read has its type.
use Rattle.std.proofs.Common.{◌≡◌, refl, ℕ, suc, ◌^◌, ℤ, Bool, true, false, not, ◌&&◌, ◌==◌, cond, List, [], ◌∷◌, length, map, is_some, Option, Some, None, Ok, ap}
use Rattle.std.specs.Bool.{⊤}
use Rattle.std.proofs.lemmas.Bool.{and_parts, or_parts}
use Rattle.serde_json.specs.Data as json
use Rattle.serde_json.specs.Data.{Data}
use Rattle.serde_json.specs.Events.{items_len}
use Rattle.serde_json.specs.Find.{get_member}
use Rattle.xt_shapes.specs.declared.leaves.Step.{Step}
use Rattle.xt_shapes.specs.Lists.{all}
use Rattle.xt_shapes.specs.NodeRules.{is_discriminator, labels_fit, not_mutable, not_empty, hashes_apart, ids_fit, structure_fits, union_fits, dims_fit, is_light, is_map_key, rules_hold, members_hold, cases_hold}
use Rattle.xt_shapes.specs.Select.{select}
use Rattle.xt_shapes.specs.Shape as shapes
use Rattle.xt_shapes.specs.Shape.{Shape, CaseHead, case_heads, product}
use Rattle.xt_shapes.specs.Typing.{has_type, have_types, case_type, on_list, on_map, on_struct, on_union, of_slot, of_body, is_below, is_past, repeats}
use Rattle.xt_shapes.specs.Vals.{Val, int, text, listed, mapped as map_val, struct_of, union_of, number_in, Slot as Body, present, vals_of, pairs_of, slots_of}
use Rattle.type_trees.specs.Trees.{Tree, prim, str, enumeration, bitmask, sequence, array, map_of, structure, union, alias, Members, no_members, member, Cases, no_cases, one_case}
use Rattle.type_trees.specs.Bridge.{shape, member_shapes, case_shapes}
use Rattle.type_rules.specs.Valid.{type_fault}
use Rattle.type_rules.proofs.Kept.{rules_kept}
use Rattle.type_values.proofs.Parts.{each_val_of, each_pair_of}
use Rattle.json_values.specs.declared.faults.JsonRule.{JsonRule}
use Rattle.json_values.specs.Names.{name_text, member_names}
use Rattle.json_values.specs.Steps.{Reading, beneath, and_then, mapped_to}
use Rattle.json_values.specs.Read.{value_of, items_of, list_of, sequence_of, array_of, pair_of, entries_of, if_distinct, map_of_pairs, has_other, has_missing, slot_of, slots_in, struct_where, case_reading, body_of, with_disc, union_where, if_json, json_of, read_as}
use Rattle.json_values.specs.Written.{disc_key, value_key}
use Rattle.dynamic_data.proofs.NamesFit.{both_true}
use Rattle.dynamic_data.proofs.TypedLeaves.{prim_typed, whole_typed, literal_typed, text_typed}
use Rattle.dynamic_data.proofs.Yields.{Yields, unless, below, next, mapped, yielded}

-- each value that is read has the type
abbrev Reads : Tree → Type 0
Reads t = (d : Data) → Yields (λ v. has_type (shape t) v ≡ true) (value_of t d)

-- ---- lists

abbrev AllRead : (Val → Bool) → json.Items → List Val → Type 0
AllRead p ds vs = (length vs ≡ items_len ds) × (all p vs ≡ true)

items_typed : (p : Val → Bool) (f : Data → Reading Val) → ((d : Data) → Yields (λ v. p v ≡ true) (f d)) → (ds : json.Items) → Yields (AllRead p ds) (items_of f ds)
items_typed p f h json.no_items = (refl, refl)
items_typed p f h (json.item d ds) =
    next (λ v. p v ≡ true) (AllRead p (json.item d ds)) (beneath Step.Element (f d)) _ (below (λ v. p v ≡ true) Step.Element (f d) (h d))
    (λ v typed. mapped (AllRead p ds) (AllRead p (json.item d ds)) (λ vs. v ∷ vs) (items_of f ds) (items_typed p f h ds) (λ vs more. (ap suc more.0, both_true (p v) (all p vs) typed more.1)))

turned : (b : Bool) → not b ≡ false → b ≡ true
turned true h = refl
turned false h = absurd cc

listed_typed : (fits : ℕ → Bool) (is_wrong : Bool) (rule : JsonRule) (p : Val → Bool) (f : Data → Reading Val) → ((d : Data) → Yields (λ v. p v ≡ true) (f d)) → (ds : json.Items) → (is_wrong ≡ false → fits (items_len ds) ≡ true)
    → Yields (λ v. on_list v (λ xs. fits (length xs) && all p xs) ≡ true) (list_of is_wrong rule f ds)
listed_typed fits is_wrong rule p f h ds right =
    let P = λ (v : Val). on_list v (λ xs. fits (length xs) && all p xs) ≡ true in
    unless P is_wrong rule (mapped_to (λ vs. listed (vals_of vs)) (items_of f ds))
    (λ fine. mapped (AllRead p ds) P (λ vs. listed (vals_of vs)) (items_of f ds) (items_typed p f h ds) (λ vs more. rw (each_val_of vs, more.0) (both_true _ _ (right fine) more.1)))

sequence_typed : (bound : ℕ) (p : Val → Bool) (f : Data → Reading Val) → ((d : Data) → Yields (λ v. p v ≡ true) (f d)) → (d : Data) → Yields (λ v. on_list v (λ xs. not (is_past bound (length xs)) && all p xs) ≡ true) (sequence_of bound f d)
sequence_typed bound p f h json.null = tt
sequence_typed bound p f h (json.boolean b) = tt
sequence_typed bound p f h (json.number n) = tt
sequence_typed bound p f h (json.string s) = tt
sequence_typed bound p f h (json.array ds) = listed_typed (λ n. not (is_past bound n)) (is_past bound (items_len ds)) JsonRule.Bound p f h ds (λ right. ap not right)
sequence_typed bound p f h (json.object ms) = tt

array_typed : (dims : List ℕ) (p : Val → Bool) (f : Data → Reading Val) → ((d : Data) → Yields (λ v. p v ≡ true) (f d)) → (d : Data) → Yields (λ v. on_list v (λ xs. (length xs == product dims) && all p xs) ≡ true) (array_of dims f d)
array_typed dims p f h json.null = tt
array_typed dims p f h (json.boolean b) = tt
array_typed dims p f h (json.number n) = tt
array_typed dims p f h (json.string s) = tt
array_typed dims p f h (json.array ds) = listed_typed (λ n. n == product dims) (not (items_len ds == product dims)) JsonRule.Count p f h ds (λ right. turned _ right)
array_typed dims p f h (json.object ms) = tt

-- ---- maps

abbrev both : (Val → Bool) → (Val → Bool) → Val × Val → Bool
both p q e = p e.0 && q e.1

pair_typed : (p q : Val → Bool) (f g : Data → Reading Val) → ((d : Data) → Yields (λ v. p v ≡ true) (f d)) → ((d : Data) → Yields (λ v. q v ≡ true) (g d)) → (d : Data) → Yields (λ e. both p q e ≡ true) (pair_of f g d)
pair_typed p q f g hf hg json.null = tt
pair_typed p q f g hf hg (json.boolean b) = tt
pair_typed p q f g hf hg (json.number n) = tt
pair_typed p q f g hf hg (json.string s) = tt
pair_typed p q f g hf hg (json.object ms) = tt
pair_typed p q f g hf hg (json.array json.no_items) = tt
pair_typed p q f g hf hg (json.array (json.item k json.no_items)) = tt
pair_typed p q f g hf hg (json.array (json.item k (json.item v json.no_items))) =
    next (λ x. p x ≡ true) (λ e. both p q e ≡ true) (beneath Step.Key (f k)) _ (below (λ x. p x ≡ true) Step.Key (f k) (hf k))
    (λ x key. mapped (λ y. q y ≡ true) (λ e. both p q e ≡ true) (λ y. (x, y)) (beneath Step.Entry (g v)) (below (λ y. q y ≡ true) Step.Entry (g v) (hg v)) (λ y value. both_true (p x) (q y) key value))
pair_typed p q f g hf hg (json.array (json.item k (json.item v (json.item w ds)))) = tt

abbrev AllPairs : (Val × Val → Bool) → json.Items → List (Val × Val) → Type 0
AllPairs r ds es = (length es ≡ items_len ds) × (all r es ≡ true)

entries_typed : (p q : Val → Bool) (f g : Data → Reading Val) → ((d : Data) → Yields (λ v. p v ≡ true) (f d)) → ((d : Data) → Yields (λ v. q v ≡ true) (g d)) → (ds : json.Items) → Yields (AllPairs (both p q) ds) (entries_of f g ds)
entries_typed p q f g hf hg json.no_items = (refl, refl)
entries_typed p q f g hf hg (json.item d ds) =
    next (λ e. both p q e ≡ true) (AllPairs (both p q) (json.item d ds)) (pair_of f g d) _ (pair_typed p q f g hf hg d)
    (λ e typed. mapped (AllPairs (both p q) ds) (AllPairs (both p q) (json.item d ds)) (λ es. e ∷ es) (entries_of f g ds) (entries_typed p q f g hf hg ds) (λ es more. (ap suc more.0, both_true (both p q e) (all (both p q) es) typed more.1)))

map_typed : (bound : ℕ) (p q : Val → Bool) (f g : Data → Reading Val) → ((d : Data) → Yields (λ v. p v ≡ true) (f d)) → ((d : Data) → Yields (λ v. q v ≡ true) (g d)) → (d : Data)
    → Yields (λ v. on_map v (λ xs. (not (is_past bound (length xs)) && not (repeats xs)) && all (λ e. p e.0 && q e.1) xs) ≡ true) (map_of_pairs bound f g d)
map_typed bound p q f g hf hg json.null = tt
map_typed bound p q f g hf hg (json.boolean b) = tt
map_typed bound p q f g hf hg (json.number n) = tt
map_typed bound p q f g hf hg (json.string s) = tt
map_typed bound p q f g hf hg (json.object ms) = tt
map_typed bound p q f g hf hg (json.array ds) =
    let P = λ (v : Val). on_map v (λ xs. (not (is_past bound (length xs)) && not (repeats xs)) && all (λ e. p e.0 && q e.1) xs) ≡ true in
    unless P (is_past bound (items_len ds)) JsonRule.Bound (and_then (entries_of f g ds) if_distinct)
    (λ within. next (AllPairs (both p q) ds) P (entries_of f g ds) if_distinct (entries_typed p q f g hf hg ds)
    (λ es more. unless P (repeats es) JsonRule.Twice (Ok (map_val (pairs_of es)))
    (λ apart. rw (each_pair_of es, more.0) (both_true _ _ (both_true _ _ (ap not within) (ap not apart)) more.1))))

-- ---- structures

abbrev AllRead-members : Members → Type 0
AllRead-members no_members = ⊤
AllRead-members (member h t ms) = Reads t × AllRead-members ms

must_be : (optional : Bool) → (not optional && true) ≡ false → optional ≡ true
must_be true h = refl
must_be false h = absurd cc

slot_typed : (id : ℕ) (optional : Bool) (t : Tree) → Reads t → (o : Option Data) → (not optional && not (is_some o)) ≡ false → Yields (λ b. of_slot optional (λ w. has_type (shape t) w) b ≡ true) (slot_of id (value_of t) o)
slot_typed id optional t h None there = must_be optional there
slot_typed id optional t h (Some d) there =
    mapped (λ v. has_type (shape t) v ≡ true) (λ b. of_slot optional (λ w. has_type (shape t) w) b ≡ true) present (beneath (Step.Member id) (value_of t d)) (below (λ v. has_type (shape t) v ≡ true) (Step.Member id) (value_of t d) (h d)) (λ v typed. typed)

slots_typed : (ms : Members) → AllRead-members ms → (os : json.Members) → has_missing ms os ≡ false → Yields (λ bs. have_types (member_shapes ms) (slots_of bs) ≡ true) (slots_in ms os)
unfolding have_types
slots_typed no_members h os there = refl
slots_typed (member head t ms) h os there =
    let parts = or_parts (not head.optional && not (is_some (get_member (name_text head.name) os))) (has_missing ms os) there in
    let P = λ (b : Body). of_slot head.optional (λ w. has_type (shape t) w) b ≡ true in
    let Q = λ (bs : List Body). have_types (member_shapes ms) (slots_of bs) ≡ true in
    next P (λ bs. have_types (member_shapes (member head t ms)) (slots_of bs) ≡ true) (slot_of head.id (value_of t) (get_member (name_text head.name) os)) _ (slot_typed head.id head.optional t h.0 (get_member (name_text head.name) os) parts.0)
    (λ b typed. mapped Q (λ bs. have_types (member_shapes (member head t ms)) (slots_of bs) ≡ true) (λ bs. b ∷ bs) (slots_in ms os) (slots_typed ms h.1 os parts.1) (λ bs more. both_true _ _ typed more))

struct_typed : (ms : Members) → AllRead-members ms → (d : Data) → Yields (λ v. on_struct v (λ ss. have_types (member_shapes ms) ss) ≡ true) (struct_where ms (slots_in ms) d)
struct_typed ms h json.null = tt
struct_typed ms h (json.boolean b) = tt
struct_typed ms h (json.number n) = tt
struct_typed ms h (json.string s) = tt
struct_typed ms h (json.array ds) = tt
struct_typed ms h (json.object os) =
    let P = λ (v : Val). on_struct v (λ ss. have_types (member_shapes ms) ss) ≡ true in
    unless P (has_other (member_names ms) os) JsonRule.Unknown _
    (λ known. unless P (has_missing ms os) JsonRule.Missing _
    (λ there. mapped (λ bs. have_types (member_shapes ms) (slots_of bs) ≡ true) P (λ bs. struct_of (slots_of bs)) (slots_in ms os) (slots_typed ms h os there) (λ bs typed. typed)))

-- ---- unions

-- a value of a discriminator is a number
disc_number : (s : Shape) (v : Val) → is_discriminator s ≡ true → has_type s v ≡ true → has_type s (int (number_in v)) ≡ true
unfolding has_type
disc_number s (int n) fits typed = typed
disc_number (shapes.prim p) (text s) fits typed = cc typed
disc_number (shapes.prim p) (listed vs) fits typed = cc typed
disc_number (shapes.prim p) (map_val ps) fits typed = cc typed
disc_number (shapes.prim p) (struct_of ss) fits typed = cc typed
disc_number (shapes.prim p) (union_of d b) fits typed = cc typed
disc_number (shapes.enumeration ext bits ls) (text s) fits typed = cc typed
disc_number (shapes.enumeration ext bits ls) (listed vs) fits typed = cc typed
disc_number (shapes.enumeration ext bits ls) (map_val ps) fits typed = cc typed
disc_number (shapes.enumeration ext bits ls) (struct_of ss) fits typed = cc typed
disc_number (shapes.enumeration ext bits ls) (union_of d b) fits typed = cc typed
disc_number (shapes.str bound) v fits typed = absurd cc
disc_number (shapes.bitmask bits flags) v fits typed = absurd cc
disc_number (shapes.sequence bound tc t) v fits typed = absurd cc
disc_number (shapes.array dims tc t) v fits typed = absurd cc
disc_number (shapes.map_of bound kc k vc t) v fits typed = absurd cc
disc_number (shapes.structure ext ms) v fits typed = absurd cc
disc_number (shapes.union ext key disc cs) v fits typed = absurd cc

abbrev AllRead-cases : Cases → Type 0
AllRead-cases no_cases = ⊤
AllRead-cases (one_case h t cs) = Reads t × AllRead-cases cs

case_by : (b : Bool) (id : ℕ) (t : Tree) (cs : Cases) (d : Data) → Reads t → Yields (λ v. case_type (case_shapes cs) id v ≡ true) (case_reading cs id d)
    → Yields (λ v. cond b (has_type (shape t) v) (case_type (case_shapes cs) id v) ≡ true) (cond b (beneath (Step.Member id) (value_of t d)) (case_reading cs id d))
case_by true id t cs d h later = below (λ v. has_type (shape t) v ≡ true) (Step.Member id) (value_of t d) (h d)
case_by false id t cs d h later = later

case_typed : (cs : Cases) → AllRead-cases cs → (id : ℕ) (d : Data) → Yields (λ v. case_type (case_shapes cs) id v ≡ true) (case_reading cs id d)
unfolding case_type
case_typed no_cases h id d = tt
case_typed (one_case head t cs) h id d = case_by (head.id == id) id t cs d h.0 (case_typed cs h.1 id d)

abbrev OfUnion : Tree → Cases → Val → Type 0
OfUnion disc cs v = on_union v (λ d s. has_type (shape disc) (int d) && of_body (select (case_shapes cs) d) (λ i w. case_type (case_shapes cs) i w) s) ≡ true

body_typed : (disc : Tree) (cs : Cases) → AllRead-cases cs → (n : ℤ) → has_type (shape disc) (int n) ≡ true → (o : Option ℕ) → select (case_shapes cs) n ≡ o → (part : Option Data) → Yields (OfUnion disc cs) (body_of n o (case_reading cs) part)
body_typed disc cs h n typed None is None = rw (typed, is) refl
body_typed disc cs h n typed None is (Some d) = tt
body_typed disc cs h n typed (Some id) is None = tt
body_typed disc cs h n typed (Some id) is (Some d) =
    mapped (λ v. case_type (case_shapes cs) id v ≡ true) (OfUnion disc cs) (λ v. union_of n (present v)) (case_reading cs id d) (case_typed cs h id d) (λ v fits. rw (typed, is, fits) refl)

union_typed : (disc : Tree) (cs : Cases) → Reads disc → AllRead-cases cs → is_discriminator (shape disc) ≡ true → (d : Data) → Yields (OfUnion disc cs) (union_where (value_of disc) (λ n part. body_of n (select (case_shapes cs) n) (case_reading cs) part) d)
union_typed disc cs hd hc fits json.null = tt
union_typed disc cs hd hc fits (json.boolean b) = tt
union_typed disc cs hd hc fits (json.number n) = tt
union_typed disc cs hd hc fits (json.string s) = tt
union_typed disc cs hd hc fits (json.array ds) = tt
union_typed disc cs hd hc fits (json.object os) =
    unless (OfUnion disc cs) (has_other (disc_key ∷ value_key ∷ []) os) JsonRule.Unknown _ (λ known. parts_typed (get_member disc_key os))
  where
    parts_typed : (o : Option Data) → Yields (OfUnion disc cs) (with_disc (value_of disc) (λ n part. body_of n (select (case_shapes cs) n) (case_reading cs) part) o (get_member value_key os))
    parts_typed None = tt
    parts_typed (Some d) =
        next (λ v. has_type (shape disc) v ≡ true) (OfUnion disc cs) (beneath Step.Disc (value_of disc d)) _ (below (λ v. has_type (shape disc) v ≡ true) Step.Disc (value_of disc d) (hd d))
        (λ v typed. body_typed disc cs hc (number_in v) (disc_number (shape disc) v fits typed) (select (case_shapes cs) (number_in v)) refl (get_member value_key os))

-- ---- every type

-- V10 in the rules of a union
disc_fits : (disc : Shape) (hashes ids filled closed fits labels : Bool) → ((hashes && ids) && (filled && (closed && (fits && labels)))) ≡ true → fits ≡ true
disc_fits disc hashes ids filled closed fits labels h =
    (and_parts fits labels (and_parts closed (fits && labels) (and_parts filled (closed && (fits && labels)) (and_parts (hashes && ids) _ h).1).1).1).0

mutual
  unfolding has_type

  typed : (t : Tree) → rules_hold (shape t) ≡ true → Reads t
  typed (prim p) ok d = prim_typed p d
  typed (str bound) ok d = text_typed bound d
  typed (enumeration name ext bits ls) ok d = literal_typed ls d
  typed (bitmask name bits flags) ok d = whole_typed (is_below (2 ^ bits)) d
  typed (sequence bound tc t) ok d = sequence_typed bound (λ w. has_type (shape t) w) (value_of t) (typed t (and_parts (is_light (shape t)) _ ok).1) d
  typed (array dims tc t) ok d = array_typed dims (λ w. has_type (shape t) w) (value_of t) (typed t (and_parts (is_light (shape t)) _ (and_parts (dims_fit dims) _ ok).1).1) d
  typed (map_of bound kc k vc t) ok d =
      let parts = and_parts (is_map_key (shape k) && (is_light (shape k) && is_light (shape t))) (rules_hold (shape k) && rules_hold (shape t)) ok in
      let rules = and_parts (rules_hold (shape k)) (rules_hold (shape t)) parts.1 in
      map_typed bound (λ w. has_type (shape k) w) (λ w. has_type (shape t) w) (value_of k) (value_of t) (typed k rules.0) (typed t rules.1) d
  typed (structure head ms) ok d = struct_typed ms (members_typed ms (and_parts (structure_fits (member_shapes ms)) _ ok).1) d
  typed (union head disc cs) ok d =
      let hs = case_heads (case_shapes cs) in
      let parts = and_parts (union_fits head.ext (shape disc) (case_shapes cs)) (rules_hold (shape disc) && cases_hold (case_shapes cs)) ok in
      let rules = and_parts (rules_hold (shape disc)) (cases_hold (case_shapes cs)) parts.1 in
      let fits = disc_fits (shape disc) (hashes_apart (map (λ (h : CaseHead). h.hash) hs)) (ids_fit (map (λ (h : CaseHead). h.id) hs)) (not_empty hs) (not_mutable head.ext) (is_discriminator (shape disc)) (labels_fit (shape disc) hs) parts.0 in
      union_typed disc cs (typed disc rules.0) (cases_typed cs rules.1) fits d
  typed (alias name t) ok d = typed t ok d

  members_typed : (ms : Members) → members_hold (member_shapes ms) ≡ true → AllRead-members ms
  members_typed no_members ok = tt
  members_typed (member head t ms) ok =
      let parts = and_parts (rules_hold (shape t)) (members_hold (member_shapes ms)) ok in
      (typed t parts.0, members_typed ms parts.1)

  cases_typed : (cs : Cases) → cases_hold (case_shapes cs) ≡ true → AllRead-cases cs
  cases_typed no_cases ok = tt
  cases_typed (one_case head t cs) ok =
      let parts = and_parts (rules_hold (shape t)) (cases_hold (case_shapes cs)) ok in
      (typed t parts.0, cases_typed cs parts.1)

if_typed : (t : Tree) (o : Option Data) (v : Val) → Reads t → if_json t o ≡ Ok v → has_type (shape t) v ≡ true
if_typed t None v h e = absurd cc
if_typed t (Some d) v h e = yielded (λ w. has_type (shape t) w ≡ true) (value_of t d) v (h d) e

pub read_typed : (t : Tree) (octets : List ℕ) (v : Val) → type_fault t ≡ None → read_as t octets ≡ Ok v → has_type (shape t) v ≡ true
read_typed t octets v valid e = if_typed t (json_of octets) v (typed t (rules_kept t valid)) e
