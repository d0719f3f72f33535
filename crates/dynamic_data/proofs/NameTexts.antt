-- The names of a valid type are texts.
use Rattle.std.proofs.Common.{◌≡◌, refl, ℕ, true, nat_lt, nat_le, List, [], ◌∷◌, length, None, lit<, arith, tests}
use Rattle.std.specs.Int.{w32, to_le_bytes}
use Rattle.std.specs.Str.{is_utf8}
use Rattle.std.proofs.lemmas.Bool.{and_parts}
use Rattle.std.proofs.lemmas.Str.{is_utf8-from_IsUtf8, IsUtf8-from_ascii}
use Rattle.std.proofs.lemmas.Str.Ascii.{IsAscii-cons}
use Rattle.hex.specs.Hex.{encode_lower}
use Rattle.xt_shapes.specs.Lists.{all}
use Rattle.type_trees.specs.declared.types.Name.{Name}
use Rattle.type_trees.specs.declared.types.Name.TheVariants.{Full, Hashed}
use Rattle.type_trees.specs.declared.types.Literal.{Literal}
use Rattle.type_trees.specs.Trees.{Tree, prim, str, enumeration, bitmask, sequence, array, map_of, structure, union, alias, Members, no_members, member, Cases, no_cases, one_case}
use Rattle.node_rules.specs.Names.{name_fits, is_identifier, is_letter, is_word}
use Rattle.node_rules.specs.Table as table
use Rattle.type_rules.specs.Valid.{type_fault}
use Rattle.json_values.specs.Names.{name_text, literal_names, has_text_names, members_have_text_names, cases_have_text_names}
use Rattle.json_values.proofs.Utf8.{IsAscii-low, all_low, IsAscii-hex}
use Rattle.dynamic_data.proofs.NamesFit.{both_true, names_fit, members_fit, cases_fit, type_fits}

low_letter : (o : ℕ) → is_letter o ≡ true → nat_lt o 128 ≡ true
low_letter o h = grind (arith, tests)

low_word : (o : ℕ) → is_word o ≡ true → nat_lt o 128 ≡ true
low_word o h = grind (arith, tests)

low_words : (os : List ℕ) → all is_word os ≡ true → all_low os ≡ true
low_words [] h = refl
low_words (o ∷ os) h =
    let parts = and_parts (is_word o) (all is_word os) h in
    both_true _ _ (low_word o parts.0) (low_words os parts.1)

low_identifier : (os : List ℕ) → is_identifier os ≡ true → all_low os ≡ true
low_identifier [] h = refl
low_identifier (o ∷ os) h =
    let parts = and_parts (is_letter o) (all is_word os) h in
    both_true _ _ (low_letter o parts.0) (low_words os parts.1)

name_is_text : (n : Name) → name_fits n ≡ true → is_utf8 (name_text n) ≡ true
name_is_text (Full s) h =
    let parts = and_parts (nat_le (length s) 255) (is_identifier s) h in
    is_utf8-from_IsUtf8 s (IsUtf8-from_ascii s (IsAscii-low s (low_identifier s parts.1)))
name_is_text (Hashed k) h =
    let s = encode_lower (to_le_bytes w32 k) in
    is_utf8-from_IsUtf8 (35 ∷ s) (IsUtf8-from_ascii (35 ∷ s) (IsAscii-cons 35 s (lit< tt) (IsAscii-hex _)))

literals_are_texts : (ls : List Literal) → all (λ l. name_fits l.name) ls ≡ true → all is_utf8 (literal_names ls) ≡ true
literals_are_texts [] h = refl
literals_are_texts (l ∷ ls) h =
    let parts = and_parts (name_fits l.name) _ h in
    both_true _ _ (name_is_text l.name parts.0) (literals_are_texts ls parts.1)

mutual
  pub texts : (t : Tree) → names_fit t ≡ true → has_text_names t ≡ true
  texts (prim p) h = refl
  texts (str bound) h = refl
  texts (enumeration name ext bits literals) h = literals_are_texts literals h
  texts (bitmask name bits flags) h = refl
  texts (sequence bound tc t) h = texts t h
  texts (array dims tc t) h = texts t h
  texts (map_of bound kc k vc v) h =
      let parts = and_parts (names_fit k) (names_fit v) h in
      both_true _ _ (texts k parts.0) (texts v parts.1)
  texts (structure head ms) h =
      let parts = and_parts (all name_fits (table.member_names ms)) (members_fit ms) h in
      member_texts ms parts.0 parts.1
  texts (union head disc cs) h =
      let parts = and_parts (names_fit disc) (cases_fit cs) h in
      both_true _ _ (texts disc parts.0) (case_texts cs parts.1)
  texts (alias name t) h = texts t h

  member_texts : (ms : Members) → all name_fits (table.member_names ms) ≡ true → members_fit ms ≡ true → members_have_text_names ms ≡ true
  member_texts no_members named h = refl
  member_texts (member head t ms) named h =
      let own = and_parts (name_fits head.name) _ named in
      let parts = and_parts (names_fit t) (members_fit ms) h in
      both_true _ _ (name_is_text head.name own.0) (both_true _ _ (texts t parts.0) (member_texts ms own.1 parts.1))

  case_texts : (cs : Cases) → cases_fit cs ≡ true → cases_have_text_names cs ≡ true
  case_texts no_cases h = refl
  case_texts (one_case head t cs) h =
      let parts = and_parts (names_fit t) (cases_fit cs) h in
      both_true _ _ (texts t parts.0) (case_texts cs parts.1)

pub type_has_texts : (t : Tree) → type_fault t ≡ None → has_text_names t ≡ true
type_has_texts t e = texts t (type_fits t e)
