-- A name that is read is an identifier and no keyword.
use Rattle.std.proofs.Common.{◌≡◌, ℕ, suc, ◌+◌, Bool, true, false, not, ◌&&◌, ◌||◌, cond, eqb, leb, length, [], ◌∷◌, Ok, Err, refl, sym, ◌∙◌, true≢false, take, arith}
use Rattle.std.proofs.lemmas.Bool.{and_parts, not-true}
use Rattle.std.specs.Char.{is_ascii_alphabetic}
use Rattle.std.specs.List.{prefix_len}
use Rattle.std.specs.Prelude.{slice_index, if◌then◌else◌, ◌==◌}
use Rattle.xt_shapes.specs.Lists.{all}
use Rattle.node_rules.specs.Names.{is_identifier, is_word as is_name_octet}
use Rattle.idl_tokens.specs.declared.tokens.TokenKind.{TokenKind}
use Rattle.idl_tokens.specs.declared.tokens.Token.{Token}
use Rattle.idl_tokens.specs.Classes.{Text}
use Rattle.idl_tokens.specs.Tokens.{a_token, skip, token, is_word, numeral, character, quoted, mark, begins_numeral}
use Rattle.idl_input.specs.declared.faults.IdlFault.{IdlFault}
use Rattle.idl_input.specs.declared.faults.IdlFault.TheVariants as fault
use Rattle.idl_input.specs.Words.{is_keyword}
use Rattle.idl_input.specs.Input.{Input, name, sees_name, kind, spelling, next, place}
use Rattle.idl_laws.proofs.Fronts.{is_run, some_octet}
use Rattle.idl_laws.proofs.Names.{is_free}
use Rattle.idl_laws.proofs.OfParsed.Gives.{Gives, pure_gives}

-- ---- tokens that are words

run_back : (l u d c : Bool) → (((d || l) || u) || c) ≡ true → (((l || u) || d) || c) ≡ true
run_back true u d c h = refl
run_back false true d c h = refl
run_back false false true c h = refl
run_back false false false c h = h

run_is_name : (o : ℕ) → is_run o ≡ true → is_name_octet o ≡ true
run_is_name o h = run_back (leb 65 o && leb o 90) (leb 97 o && leb o 122) (leb 48 o && leb o 57) (eqb o 95) h

abbrev Fronts : Text → ℕ → Type 0
Fronts z n = all is_name_octet (take n z) ≡ true

one_more : (n : ℕ) → 1 + n ≡ suc n
one_more n = omega arith

run_more : (b n : ℕ) (z : Text) (t : Bool) → is_run b ≡ t → Fronts z n → Fronts (b ∷ z) (cond t (1 + n) 0)
run_more b n z true h on = rw (one_more n, run_is_name b h) on
run_more b n z false h on = refl

run_word : (z : Text) → Fronts z (prefix_len is_run z)
run_word [] = refl
run_word (b ∷ z) = run_more b (prefix_len is_run z) z (is_run b) refl (run_word z)

-- a token of another kind
abbrev no_word : Token → Bool
no_word t = not (is_word t.kind)

by_both : (p : Bool) (a b : Token) → no_word a ≡ true → no_word b ≡ true → no_word (cond p a b) ≡ true
by_both true a b first second = first
by_both false a b first second = second

-- the token that begins with no letter
abbrev other : Text → Token
other t = if begins_numeral t then numeral t else (if slice_index t 0 == 39 then character t else (if slice_index t 0 == 34 then quoted t else mark t))

numeral_by : (p : Bool) → not (is_word (if p then TokenKind.Number else TokenKind.Bad)) ≡ true
numeral_by true = refl
numeral_by false = refl

mark_by : (p q : Bool) → no_word (if p then a_token TokenKind.Mark 2 else (if q then a_token TokenKind.Mark 1 else a_token TokenKind.Bad 1)) ≡ true
mark_by true q = refl
mark_by false true = refl
mark_by false false = refl

other_no_word : (t : Text) → no_word (other t) ≡ true
other_no_word t =
    by_both (begins_numeral t) (numeral t) _ (numeral_by _)
    (by_both (slice_index t 0 == 39) (character t) _ (by_both _ (a_token TokenKind.Character 3) (a_token TokenKind.Bad 1) refl refl)
    (by_both (slice_index t 0 == 34) (quoted t) (mark t) (by_both _ (a_token TokenKind.Quoted _) (a_token TokenKind.Bad 1) refl refl) (mark_by _ _)))

-- a word where a letter begins it, and else this token
abbrev word_or : Text → Token → Bool → Token
word_or z t letter = if letter then a_token TokenKind.Word (1 + prefix_len is_run z) else t

word_by : (b : ℕ) (z : Text) (t : Token) (letter : Bool) → is_ascii_alphabetic b ≡ letter → no_word t ≡ true → is_word (word_or z t letter).kind ≡ true → is_identifier (take (word_or z t letter).len (b ∷ z)) ≡ true
word_by b z t true e none h = rw (one_more (prefix_len is_run z), e) (run_word z)
word_by b z t false e none h = absurd (true≢false (sym h ∙ not-true (is_word t.kind) none))

word_from : (t : Text) → is_word (token t).kind ≡ true → is_identifier (take (token t).len t) ≡ true
unfolding token
word_from [] h = absurd (true≢false (sym h))
word_from (b ∷ z) h = rw (some_octet (length z)) (word_by b z (other (b ∷ z)) (is_ascii_alphabetic b) refl (other_no_word (b ∷ z)) (rw (some_octet (length z)) at h))

-- ---- names

free_from : (word key : Bool) (s : Text) → (word ≡ true → is_identifier s ≡ true) → is_keyword s ≡ key → (word && not key) ≡ true → is_free s ≡ true
free_from word key s identifier is h = let both = and_parts word (not key) h in rw (identifier both.0, is, both.1) refl

name_by : (t : Bool) (s : Text) (i : Input) (e : IdlFault) → (t ≡ true → is_free s ≡ true) → Gives (λ k. if t then Ok (s, i) else Err e) (λ s. is_free s ≡ true)
name_by true s i e free k j a is = pure_gives s (λ s. is_free s ≡ true) (free refl) i j a is
name_by false s i e free k j a is = cc

pub name_gives : Gives name (λ s. is_free s ≡ true)
unfolding name sees_name kind spelling
name_gives i j a e = name_by (sees_name i) (spelling i) (next i) (fault.Syntax (place i)) (free_from (is_word (kind i)) (is_keyword (spelling i)) (spelling i) (word_from (skip i.text)) refl) i j a e
