-- Identifiers joined by colons: their parts are these identifiers.
use Rattle.std.proofs.Common.{◌≡◌, ℕ, Bool, true, false, not, ◌&&◌, eqb, List, [], ◌∷◌, ◌++◌, map, refl, sym, ap, ◌∙◌, subst, true≢false, append_assoc}
use Rattle.std.proofs.lemmas.List.{append-nil}
use Rattle.std.proofs.lemmas.Bool.{eqb-true, and_parts}
use Rattle.xt_shapes.specs.Lists.{all}
use Rattle.node_rules.specs.Names.{is_letter, is_word, is_identifier}
use Rattle.idl_tokens.specs.Classes.{Text}
use Rattle.idl_input.specs.Words.{is_keyword}
use Rattle.idl_types.specs.declared.opened.Opened.{Opened}
use Rattle.idl_types.specs.Names.{full_name}
use Rattle.idl_laws.specs.Printable.{with_part, parts, parts_from, has_no_keyword}
use Rattle.idl_laws.proofs.Names.{is_free, joined, free_parts, free_word, free_no_keyword}

-- ---- parts

no_colon : (b : ℕ) → is_word b ≡ true → eqb b 58 ≡ false
no_colon b e = go (eqb b 58) refl
  where
    go : (t : Bool) → eqb b 58 ≡ t → eqb b 58 ≡ false
    go false h = h
    go true h = absurd (true≢false (sym (subst (λ n. is_word n ≡ true) (eqb-true b 58 h) e)))

part_on : (part s z : Text) → all is_word s ≡ true → parts_from part (s ++ 58 ∷ z) ≡ with_part (part ++ s) (parts_from [] z)
part_on part [] z words = rw append-nil refl
part_on part (b ∷ s) z words =
    let both = and_parts (is_word b) (all is_word s) words in
    rw (no_colon b both.0) (part_on (part ++ b ∷ []) s z both.1 ∙ ap (λ t. with_part t (parts_from [] z)) (append_assoc part (b ∷ []) s))

part_last : (part s : Text) → all is_word s ≡ true → parts_from part s ≡ with_part (part ++ s) []
part_last part [] words = rw append-nil refl
part_last part (b ∷ s) words =
    let both = and_parts (is_word b) (all is_word s) words in
    rw (no_colon b both.0) (part_last (part ++ b ∷ []) s both.1 ∙ ap (λ t. with_part t []) (append_assoc part (b ∷ []) s))

-- an identifier's octets
words_of : (s : Text) → is_identifier s ≡ true → all is_word s ≡ true
words_of [] e = refl
words_of (b ∷ s) e = let both = and_parts (is_letter b) (all is_word s) e in rw (both.0, both.1) refl

whole_part : (s : Text) (ps : List Text) → is_identifier s ≡ true → with_part s ps ≡ s ∷ ps
whole_part [] ps e = absurd (true≢false (sym e))
whole_part (b ∷ s) ps e = refl

pub parts_joined : (path : List Text) (last : Text) → (all is_free path && is_free last) ≡ true → parts (joined path last) ≡ path ++ last ∷ []
parts_joined [] last free =
    let word = free_word last free in
    part_last [] last (words_of last word) ∙ whole_part last [] word
parts_joined (s ∷ ss) last free =
    let each = free_parts s ss last free in
    let word = free_word s each.0 in
    part_on [] s (58 ∷ joined ss last) (words_of s word) ∙ whole_part s (parts (joined ss last)) word ∙ ap (λ ps. s ∷ ps) (parts_joined ss last each.1)

-- ---- keywords

no_keywords : (path : List Text) (last : Text) → (all is_free path && is_free last) ≡ true → all (λ s. not (is_keyword s)) (path ++ last ∷ []) ≡ true
no_keywords [] last free = rw (free_no_keyword last free) refl
no_keywords (s ∷ ss) last free = let each = free_parts s ss last free in rw (free_no_keyword s each.0) (no_keywords ss last each.1)

pub joined_no_keyword : (path : List Text) (last : Text) → (all is_free path && is_free last) ≡ true → has_no_keyword (joined path last) ≡ true
joined_no_keyword path last free = ap (all (λ s. not (is_keyword s))) (parts_joined path last free) ∙ no_keywords path last free

-- ---- full names

abbrev pub names_of : List Opened → List Text
names_of = map (λ (o : Opened). o.name)

pub full_is : (os : List Opened) (last : Text) → full_name os last ≡ joined (names_of os) last
full_is [] last = refl
full_is (o ∷ os) last = append_assoc o.name (58 ∷ 58 ∷ []) (full_name os last) ∙ ap (λ t. o.name ++ 58 ∷ 58 ∷ t) (full_is os last)
