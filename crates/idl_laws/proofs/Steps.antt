-- What the steps of the grammar give at a token.
use Rattle.std.proofs.Common.{◌≡◌, ℕ, ◌+◌, ◌≤◌, Bool, true, false, not, ◌&&◌, length, take, ◌++◌, None, Ok, refl, ap, ◌∙◌, arith}
use Rattle.std.specs.Prelude.{decimal}
use Rattle.std.specs.Str.{bytes_eq}
use Rattle.std.proofs.lemmas.List.{length-append}
use Rattle.std.proofs.lemmas.Slice.Eq.{bytes_eq-Decides}
use Rattle.std.proofs.lemmas.Bool.{not-true}
use Rattle.idl_tokens.specs.declared.tokens.TokenKind.{TokenKind}
use Rattle.idl_tokens.specs.declared.tokens.TokenKind.TheVariants.{Word}
use Rattle.idl_tokens.specs.Classes.{Text}
use Rattle.idl_tokens.specs.Tokens.{skip, token, is_word, is_word_or_mark}
use Rattle.idl_tokens.specs.Tokens.{sees as sees_text, kind_at, spelling_at}
use Rattle.idl_tokens.specs.Tokens as tokens
use Rattle.idl_input.specs.Words.{keyword, is_keyword}
use Rattle.idl_input.specs.Input.{Input, Parser, kind, spelling, next, left, sees, sees_name, sees_number, keyword_at, after_if, want, name, bound}
use Rattle.idl_laws.proofs.Fronts.{Front, ends, front_at, front_kind, front_spelling, front_after}
use Rattle.idl_laws.proofs.Numbers.{number_front, unsigned_of_decimal}

abbrev pub at : Text → ℕ → Input
at text size = record { text = text; size = size }

-- Whatever the whole text is, a parser gives a value at this text, and leaves that one.
abbrev pub Reads : {A : Type 0} → Parser A → Text → A → Text → Type 0
Reads p text a rest = (size : ℕ) → p (at text size) ≡ Ok (a, at rest size)

-- ---- the next token

pub kind_is : {k : TokenKind} {s text rest : Text} → Front k s text rest → (size : ℕ) → kind (at text size) ≡ k
unfolding kind
kind_is f size = front_kind f

pub spelling_is : {k : TokenKind} {s text rest : Text} → Front k s text rest → (size : ℕ) → spelling (at text size) ≡ s
unfolding spelling
spelling_is f size = front_spelling f

pub next_is : {k : TokenKind} {s text rest : Text} → Front k s text rest → (size : ℕ) → next (at text size) ≡ at rest size
unfolding next
next_is f size = ap (λ (t : Text). at t size) (front_after f)

pub left_is : {k : TokenKind} {s text rest : Text} → Front k s text rest → (size : ℕ) → left (at text size) ≡ length s + length rest
unfolding left
left_is {k} {s} {text} {rest} f size = ap (λ (t : Text). length t) f.at ∙ length-append s rest

-- ---- words and marks

pub same_text : (s : Text) → bytes_eq s s ≡ true
same_text s = (bytes_eq-Decides s s).1 refl

-- a test of a token's kind and spelling goes by what they are
same_seen : (k j : TokenKind) (a b wanted : Text) → k ≡ j → a ≡ b → (is_word_or_mark k && bytes_eq a wanted) ≡ (is_word_or_mark j && bytes_eq b wanted)
same_seen k j a b wanted e d = rw (e, d) refl

pub seen : {k : TokenKind} {s text rest : Text} → Front k s text rest → is_word_or_mark k ≡ true → tokens.sees s text ≡ true
unfolding sees_text
seen {k} {s} {text} {rest} f is = same_seen (kind_at text) k (spelling_at text) s s (front_kind f) (front_spelling f) ∙ rw is (same_text s)

-- what is seen of a text is what is seen behind its blanks
pub same_sees : (w a b : Text) → skip a ≡ skip b → tokens.sees w a ≡ tokens.sees w b
unfolding tokens.sees
same_sees w a b e = ap (λ (t : Text). is_word_or_mark (token t).kind && bytes_eq (take (token t).len t) w) e

-- another word or mark, or no word or mark
abbrev pub is_other : TokenKind → Text → Text → Bool
is_other k s wanted = not (is_word_or_mark k && bytes_eq s wanted)

pub not_seen : {k : TokenKind} {s text rest : Text} (wanted : Text) → Front k s text rest → is_other k s wanted ≡ true → tokens.sees wanted text ≡ false
unfolding sees_text
not_seen {k} {s} {text} {rest} wanted f other = same_seen (kind_at text) k (spelling_at text) s wanted (front_kind f) (front_spelling f) ∙ not-true _ other

pub sees_is : {k : TokenKind} {s text rest : Text} → Front k s text rest → is_word_or_mark k ≡ true → (size : ℕ) → sees s (at text size) ≡ true
unfolding sees
sees_is f is size = seen f is

pub sees_not : {k : TokenKind} {s text rest : Text} (wanted : Text) → Front k s text rest → is_other k s wanted ≡ true → (size : ℕ) → sees wanted (at text size) ≡ false
unfolding sees
sees_not wanted f other size = not_seen wanted f other

pub after_if_is : {k : TokenKind} {s text rest : Text} → Front k s text rest → is_word_or_mark k ≡ true → (size : ℕ) → after_if s (at text size) ≡ at rest size
unfolding after_if
after_if_is f is size = rw (sees_is f is size, next_is f size) refl

pub after_if_not : {k : TokenKind} {s text rest : Text} (wanted : Text) → Front k s text rest → is_other k s wanted ≡ true → (size : ℕ) → after_if wanted (at text size) ≡ at text size
unfolding after_if
after_if_not wanted f other size = rw (sees_not wanted f other size) refl

pub want_is : {k : TokenKind} {s text rest : Text} → Front k s text rest → is_word_or_mark k ≡ true → Reads (want s) text tt rest
unfolding want
want_is f is size = rw (sees_is f is size, next_is f size) refl

-- ---- names, keywords and bounds

pub sees_name_is : {s text rest : Text} → Front Word s text rest → is_keyword s ≡ false → (size : ℕ) → sees_name (at text size) ≡ true
unfolding sees_name
sees_name_is f free size = rw (kind_is f size, spelling_is f size, free) refl

pub name_is : {s text rest : Text} → Front Word s text rest → is_keyword s ≡ false → Reads name text s rest
unfolding name
name_is f free size = rw (sees_name_is f free size, spelling_is f size, next_is f size) refl

pub keyword_is : {s text rest : Text} → Front Word s text rest → (size : ℕ) → keyword_at (at text size) ≡ keyword s
unfolding keyword_at
keyword_is f size = rw (kind_is f size, spelling_is f size) refl

pub keyword_none : {k : TokenKind} {s text rest : Text} → Front k s text rest → is_word k ≡ false → (size : ℕ) → keyword_at (at text size) ≡ None
unfolding keyword_at
keyword_none f no_word size = rw (kind_is f size, no_word) refl

pub bound_is : (n : ℕ) (text rest : Text) → skip text ≡ skip (decimal n ++ rest) → 1 ≤ n → n ≤ 4294967295 → ends rest ≡ true → Reads bound text n rest
unfolding bound sees_number
bound_is n text rest begins some fits over size =
    let f = front_at text begins (number_front n rest (omega arith) over) in
    rw (kind_is f size, spelling_is f size, unsigned_of_decimal 1 4294967295 n (omega arith) some fits, next_is f size) refl
