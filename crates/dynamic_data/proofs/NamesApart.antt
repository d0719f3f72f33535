-- The names of a valid type are told apart in JSON.
use Rattle.std.proofs.Common.{◌≡◌, refl, ℕ, zero, suc, ◌^◌, ◌<◌, Bool, true, false, not, ◌&&◌, ◌||◌, nat_eq, nat_le, bytes_eq, true≢false, List, [], ◌∷◌, map, length, Ok, None, sym, ap, subst, ◌∙◌, arith, tests}
use Rattle.std.specs.Int.{w32, to_le_bytes, from_le_bytes, bytes_low_first, byte_at}
use Rattle.std.proofs.lemmas.Bool.{and_parts, or_parts}
use Rattle.std.proofs.lemmas.Nat.{from_le_bytes-to_le_bytes_4}
use Rattle.hex.specs.Hex.{IsBytes, encode_lower, decode_of}
use Rattle.hex.proofs.HexLemmas.{decode_of-encode_lower}
use borrow.Author.Tests.{ltb-true}
use Rattle.xt_shapes.specs.Lists.{has, all}
use Rattle.xt_shapes.specs.NodeRules.{hashes_apart, ids_fit, structure_fits, union_fits, mask_fits, dims_fit, is_light, is_map_key, not_empty, rules_hold, members_hold, cases_hold}
use Rattle.xt_shapes.specs.Shape.{Literal as LiteralShape, Head, heads}
use Rattle.type_trees.specs.declared.types.Name.{Name}
use Rattle.type_trees.specs.declared.types.Name.TheVariants.{Full, Hashed}
use Rattle.type_trees.specs.declared.types.Literal.{Literal}
use Rattle.type_trees.specs.Trees.{Tree, prim, str, enumeration, bitmask, sequence, array, map_of, structure, union, alias, Members, no_members, member, Cases, no_cases, one_case}
use Rattle.type_trees.specs.Bridge.{name_number, literal_shape, flag_shape, shape, member_shapes, case_shapes}
use Rattle.node_rules.specs.Names.{name_fits, is_identifier}
use Rattle.node_rules.specs.Table as table
use Rattle.type_rules.specs.Valid.{type_fault}
use Rattle.type_rules.proofs.Kept.{rules_kept}
use Rattle.json_values.specs.Names.{name_text, is_among, literal_names, member_names}
use Rattle.dynamic_data.specs.Faithful.{are_apart, is_faithful, members_are_faithful, cases_are_faithful}
use Rattle.dynamic_data.proofs.BackLeaves.{IsBytes-cons, byte_small, bytes_equal}
use Rattle.dynamic_data.proofs.NamesFit.{both_true, names_fit, members_fit, cases_fit, type_fits}

-- ---- names with one text have one hash

IsBytes-low_first : (i m n : ℕ) → IsBytes (bytes_low_first i m n)
IsBytes-low_first i zero n = λ k. omega arith
IsBytes-low_first i (suc m) n = IsBytes-cons (byte_at i n) (bytes_low_first (suc i) m n) (byte_small i n) (IsBytes-low_first (suc i) m n)

hex_bytes : (a b : List ℕ) → IsBytes a → IsBytes b → encode_lower a ≡ encode_lower b → a ≡ b
hex_bytes a b bytes_a bytes_b same =
    let found : Ok a ≡ Ok b = sym (decode_of-encode_lower a bytes_a) ∙ ap decode_of same ∙ decode_of-encode_lower b bytes_b in
    cc

tail_same : (a b : List ℕ) → 35 ∷ a ≡ 35 ∷ b → a ≡ b
tail_same a b e = cc

no_identifier : (s r : List ℕ) → is_identifier s ≡ true → s ≡ 35 ∷ r → ⊥
no_identifier s r h e = true≢false (sym (subst (λ x. is_identifier x ≡ true) e h))

one_number : (n m : Name) → name_fits n ≡ true → name_fits m ≡ true → name_text n ≡ name_text m → name_number n ≡ name_number m
one_number (Full s) (Full t) fit fit' same = ap (λ x. name_number (Full x)) same
one_number (Full s) (Hashed k) fit fit' same = absurd (no_identifier s _ (and_parts (nat_le (length s) 255) (is_identifier s) fit).1 same)
one_number (Hashed k) (Full t) fit fit' same = absurd (no_identifier t _ (and_parts (nat_le (length t) 255) (is_identifier t) fit').1 (sym same))
one_number (Hashed j) (Hashed k) fit fit' same =
    let octets = hex_bytes (to_le_bytes w32 j) (to_le_bytes w32 k) (IsBytes-low_first 0 4 j) (IsBytes-low_first 0 4 k) (tail_same _ _ same) in
    let low_j : j < 2 ^ 32 = ltb-true j 4294967296 fit in
    let low_k : k < 2 ^ 32 = ltb-true k 4294967296 fit' in
    ap (λ x. name_number (Hashed x)) (sym (from_le_bytes-to_le_bytes_4 j low_j) ∙ ap (from_le_bytes w32) octets ∙ from_le_bytes-to_le_bytes_4 k low_k)

-- ---- names whose hashes are distinct have distinct texts

same_eq : (a : ℕ) → nat_eq a a ≡ true
same_eq a = grind (arith, tests)

differ : (n m : Name) → name_fits n ≡ true → name_fits m ≡ true → nat_eq (name_number n) (name_number m) ≡ false → (b : Bool) → bytes_eq (name_text m) (name_text n) ≡ b → b ≡ false
differ n m fit fit' other false same = refl
differ n m fit fit' other true same =
    let number = one_number m n fit' fit (bytes_equal (name_text m) (name_text n) same) in
    absurd (true≢false (sym (subst (λ k. nat_eq (name_number n) k ≡ true) (sym number) (same_eq (name_number n))) ∙ other))

both_false : (b c : Bool) → b ≡ false → c ≡ false → (b || c) ≡ false
both_false b c hb hc = rw hb hc

not_among : (n : Name) (ms : List Name) → name_fits n ≡ true → all name_fits ms ≡ true → has (nat_eq (name_number n)) (map name_number ms) ≡ false → is_among (name_text n) (map name_text ms) ≡ false
not_among n [] fit fits other = refl
not_among n (m ∷ ms) fit fits other =
    let own = and_parts (name_fits m) (all name_fits ms) fits in
    let parts = or_parts (nat_eq (name_number n) (name_number m)) _ other in
    both_false (bytes_eq (name_text m) (name_text n)) _ (differ n m fit own.0 parts.0 _ refl) (not_among n ms fit own.1 parts.1)

turned : (b c : Bool) → not b ≡ true → (b ≡ false → c ≡ false) → not c ≡ true
turned true c h f = cc h
turned false c h f = ap not (f refl)

names_apart : (ns : List Name) → all name_fits ns ≡ true → hashes_apart (map name_number ns) ≡ true → are_apart (map name_text ns) ≡ true
names_apart [] fits apart = refl
names_apart (n ∷ ns) fits apart =
    let own = and_parts (name_fits n) (all name_fits ns) fits in
    let parts = and_parts (not (has (nat_eq (name_number n)) (map name_number ns))) _ apart in
    both_true _ _ (turned _ (is_among (name_text n) (map name_text ns)) parts.0 (not_among n ns own.0 own.1)) (names_apart ns own.1 parts.1)

-- ---- of literals and members

abbrev names_of : List Literal → List Name
names_of ls = map (λ l. l.name) ls

literal_hashes : (ls : List Literal) → map (λ (l : LiteralShape). l.hash) (map literal_shape ls) ≡ map name_number (names_of ls)
literal_hashes [] = refl
literal_hashes (l ∷ ls) = ap (λ r. name_number l.name ∷ r) (literal_hashes ls)

literal_texts : (ls : List Literal) → map name_text (names_of ls) ≡ literal_names ls
literal_texts [] = refl
literal_texts (l ∷ ls) = ap (λ r. name_text l.name ∷ r) (literal_texts ls)

literals_fit : (ls : List Literal) → all (λ l. name_fits l.name) ls ≡ true → all name_fits (names_of ls) ≡ true
literals_fit [] h = refl
literals_fit (l ∷ ls) h =
    let parts = and_parts (name_fits l.name) _ h in
    both_true _ _ parts.0 (literals_fit ls parts.1)

literals_apart : (ls : List Literal) → all (λ l. name_fits l.name) ls ≡ true → hashes_apart (map (λ (l : LiteralShape). l.hash) (map literal_shape ls)) ≡ true → are_apart (literal_names ls) ≡ true
literals_apart ls fits apart =
    ap are_apart (sym (literal_texts ls)) ∙ names_apart (names_of ls) (literals_fit ls fits) (ap hashes_apart (sym (literal_hashes ls)) ∙ apart)

member_hashes : (ms : Members) → map (λ (h : Head). h.hash) (heads (member_shapes ms)) ≡ map name_number (table.member_names ms)
member_hashes no_members = refl
member_hashes (member h t ms) = ap (λ r. name_number h.name ∷ r) (member_hashes ms)

members_texts : (ms : Members) → map name_text (table.member_names ms) ≡ member_names ms
members_texts no_members = refl
members_texts (member h t ms) = ap (λ r. name_text h.name ∷ r) (members_texts ms)

members_apart : (ms : Members) → all name_fits (table.member_names ms) ≡ true → hashes_apart (map (λ (h : Head). h.hash) (heads (member_shapes ms))) ≡ true → are_apart (member_names ms) ≡ true
members_apart ms fits apart =
    ap are_apart (sym (members_texts ms)) ∙ names_apart (table.member_names ms) fits (ap hashes_apart (sym (member_hashes ms)) ∙ apart)

-- ---- every type

mutual
  faithful : (t : Tree) → rules_hold (shape t) ≡ true → names_fit t ≡ true → is_faithful t ≡ true
  faithful (prim p) h fits = refl
  faithful (str bound) h fits = refl
  faithful (enumeration name ext bits literals) h fits = literals_apart literals fits (and_parts (hashes_apart (map (λ (l : LiteralShape). l.hash) (map literal_shape literals))) _ h).0
  faithful (bitmask name bits flags) h fits =
      let fs = map flag_shape flags in
      let fit = and_parts (not_empty fs) (mask_fits bits fs) (and_parts (hashes_apart (map (λ f. f.hash) fs)) _ h).1 in
      (and_parts (nat_le 1 bits) (nat_le bits 64) (and_parts (nat_le 1 bits && nat_le bits 64) _ fit.1).0).1
  faithful (sequence bound tc t) h fits = faithful t (and_parts (is_light (shape t)) _ h).1 fits
  faithful (array dims tc t) h fits = faithful t (and_parts (is_light (shape t)) _ (and_parts (dims_fit dims) _ h).1).1 fits
  faithful (map_of bound kc k vc v) h fits =
      let parts = and_parts (is_map_key (shape k) && (is_light (shape k) && is_light (shape v))) (rules_hold (shape k) && rules_hold (shape v)) h in
      let both = and_parts (rules_hold (shape k)) (rules_hold (shape v)) parts.1 in
      let names = and_parts (names_fit k) (names_fit v) fits in
      both_true _ _ (faithful k both.0 names.0) (faithful v both.1 names.1)
  faithful (structure head ms) h fits =
      let hs = heads (member_shapes ms) in
      let parts = and_parts (structure_fits (member_shapes ms)) (members_hold (member_shapes ms)) h in
      let apart = and_parts (hashes_apart (map (λ (h : Head). h.hash) hs)) (ids_fit (map (λ (h : Head). h.id) hs)) (and_parts (hashes_apart (map (λ (h : Head). h.hash) hs) && ids_fit (map (λ (h : Head). h.id) hs)) _ parts.0).0 in
      let names = and_parts (all name_fits (table.member_names ms)) (members_fit ms) fits in
      both_true _ _ (members_apart ms names.0 apart.0) (members_faithful ms parts.1 names.1)
  faithful (union head disc cs) h fits =
      let parts = and_parts (union_fits head.ext (shape disc) (case_shapes cs)) (rules_hold (shape disc) && cases_hold (case_shapes cs)) h in
      let both = and_parts (rules_hold (shape disc)) (cases_hold (case_shapes cs)) parts.1 in
      let names = and_parts (names_fit disc) (cases_fit cs) fits in
      both_true _ _ (faithful disc both.0 names.0) (cases_faithful cs both.1 names.1)
  faithful (alias name t) h fits = faithful t h fits

  members_faithful : (ms : Members) → members_hold (member_shapes ms) ≡ true → members_fit ms ≡ true → members_are_faithful ms ≡ true
  members_faithful no_members h fits = refl
  members_faithful (member head t ms) h fits =
      let parts = and_parts (rules_hold (shape t)) (members_hold (member_shapes ms)) h in
      let names = and_parts (names_fit t) (members_fit ms) fits in
      both_true _ _ (faithful t parts.0 names.0) (members_faithful ms parts.1 names.1)

  cases_faithful : (cs : Cases) → cases_hold (case_shapes cs) ≡ true → cases_fit cs ≡ true → cases_are_faithful cs ≡ true
  cases_faithful no_cases h fits = refl
  cases_faithful (one_case head t cs) h fits =
      let parts = and_parts (rules_hold (shape t)) (cases_hold (case_shapes cs)) h in
      let names = and_parts (names_fit t) (cases_fit cs) fits in
      both_true _ _ (faithful t parts.0 names.0) (cases_faithful cs parts.1 names.1)

pub type_is_faithful : (t : Tree) → type_fault t ≡ None → is_faithful t ≡ true
type_is_faithful t e = faithful t (rules_kept t e) (type_fits t e)
