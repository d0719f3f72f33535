-- What the grammar reads from, and the steps that every rule is made of (this profile's own).
use Rattle.std.specs.Prelude.{◌≡◌, ◌≢◌, ℕ, zero, suc, ◌-◌, Bool, not, ◌&&◌, if◌then◌else◌, List, [], ◌∷◌, ◌++◌, length, Option, Some, None, Result, Ok, Err, refl, codes}
use Rattle.std.specs.Coded.{Coded, code_by, coded×, coded_ℕ, coded_list}
use Rattle.idl_tokens.specs.declared.tokens.TokenKind.{TokenKind}
use Rattle.xt_annotations.specs.declared.notes.Note.{Note}
use Rattle.xt_annotations.specs.declared.notes.Placed.{Placed}
use Rattle.xt_annotations.specs.declared.notes.Refused.{Refused}
use Rattle.xt_annotations.specs.declared.places.Site.{Site}
use Rattle.idl_tokens.specs.Tokens.{skip, token, kind_at, spelling_at, after, is_word, is_number}
use Rattle.idl_tokens.specs.Classes.{Text}
use Rattle.idl_tokens.specs.Numerals.{unsigned_in}
use Rattle.xt_annotations.specs.Notes.{note_after}
use Rattle.idl_tokens.specs.Tokens as tokens
use Rattle.xt_annotations.specs.Places.{breaks}
use Rattle.idl_input.specs.declared.faults.IdlFault.{IdlFault}
use Rattle.idl_input.specs.declared.faults.IdlFault.TheVariants as fault
use Rattle.idl_input.specs.Words.{keyword, is_keyword}
use Rattle.idl_input.specs.declared.words.Keyword.{Keyword}

pub record Input : Type 0 where
  -- the text after the last token that was read
  pub text : Text
  -- the length of the whole text
  pub size : ℕ

abbrev pub input_code : Coded Input
input_code = code_by (Text × ℕ) (coded× (coded_list coded_ℕ) coded_ℕ) (λ i. (i.text, i.size)) (λ p. record { text = p.0; size = p.1 }) (λ _. refl)

-- ---- the next token

unfoldable pub kind : Input → TokenKind
kind i = kind_at i.text

unfoldable pub spelling : Input → Text
spelling i = spelling_at i.text

unfoldable pub next : Input → Input
next i = record i { text = after i.text }

-- the octets from the next token on, and its place
unfoldable pub left : Input → ℕ
left i = length (skip i.text)

unfoldable pub place : Input → ℕ
place i = i.size - length (skip i.text)

unfoldable pub sees : Text → Input → Bool
sees spelling i = tokens.sees spelling i.text

-- an identifier that is no keyword
unfoldable pub sees_name : Input → Bool
sees_name i = is_word (kind i) && not (is_keyword (spelling i))

-- the keyword that the next token is
unfoldable pub keyword_at : Input → Option Keyword
keyword_at i = if is_word (kind i) then keyword (spelling i) else None

unfoldable pub sees_number : Input → Bool
sees_number i = is_number (kind i)

-- ---- readings: a value and what is left, or the first fault

abbrev pub Outcome : Type 0 → Type 0
Outcome A = Result (A × Input) IdlFault

abbrev pub Parser : Type 0 → Type 0
Parser A = Input → Outcome A

abbrev pub and_then : {A B : Type 0} → Outcome A → (A → Parser B) → Outcome B
and_then (Ok p) f = f p.0 p.1
and_then (Err e) f = Err e

infixl 10 ◌>>=◌
abbrev pub ◌>>=◌ : {A B : Type 0} → Parser A → (A → Parser B) → Parser B
p >>= f = λ i. and_then (p i) f

infixl 10 ◌>>◌
abbrev pub ◌>>◌ : {A B : Type 0} → Parser A → Parser B → Parser B
p >> q = p >>= (λ _. q)

abbrev pub pure : {A : Type 0} → A → Parser A
pure a = λ i. Ok (a, i)

-- the text so far goes on with no such token
abbrev pub syntax : {A : Type 0} → Parser A
syntax = λ i. Err (fault.Syntax (place i))

abbrev pub refuse : {A : Type 0} → IdlFault → Parser A
refuse e = λ i. Err e

abbrev pub here : Parser ℕ
here = λ i. Ok (place i, i)

-- the token's text, whatever it is
abbrev pub take_token : Parser Text
take_token = λ i. Ok (spelling i, next i)

unfoldable pub after_if : Text → Input → Input
after_if s i = if sees s i then next i else i

-- takes this word or mark, if it comes next
abbrev pub eat : Text → Parser Bool
eat s = λ i. Ok (sees s i, after_if s i)

unfoldable pub want : Text → Parser (Unit {0})
want s = λ i. if sees s i then Ok (tt, next i) else syntax i

unfoldable pub name : Parser Text
name = λ i. if sees_name i then Ok (spelling i, next i) else syntax i

abbrev pub or_syntax : {A : Type 0} → Option A → Parser A
or_syntax (Some a) = λ i. Ok (a, next i)
or_syntax None = syntax

-- a bound or a dimension
unfoldable pub bound : Parser ℕ
bound = λ i. if sees_number i then or_syntax (unsigned_in 1 4294967295 (spelling i)) i else syntax i

-- ---- annotations

abbrev pub noted : ℕ → ℕ → Result (Note × Text) ℕ → Outcome Placed
noted at size (Ok p) = Ok (record { at = at; note = p.0 }, record { text = p.1; size = size })
noted at size (Err rule) = Err (fault.Annotation at rule)

-- the annotation whose `@` comes next
unfoldable pub note : Parser Placed
note = λ i. noted (place i) i.size (note_after (after i.text))

abbrev pub judge_by : ℕ → Option ℕ → Parser (Unit {0})
judge_by at None = pure tt
judge_by at (Some rule) = refuse (fault.Annotation at rule)

-- a note may stand at the site, behind the earlier ones
abbrev pub judge : Site → List Placed → Placed → Parser (Unit {0})
judge site before p = judge_by p.at (breaks site before p.note)

-- The number bounds the turns. Each turn takes a token, so the count of octets is enough.
abbrev pub turns : Input → ℕ
turns i = left i

unfoldable pub notes_from : Site → ℕ → List Placed → Parser (List Placed)
notes_from site zero before = pure before
notes_from site (suc n) before = λ i. if sees (codes "@") i then (note >>= λ p. judge site before p >> notes_from site n (before ++ p ∷ [])) i else Ok (before, i)

-- the annotations at a site, each judged where it stands
unfoldable pub notes_at : Site → Parser (List Placed)
notes_at site = λ i. notes_from site (turns i) [] i

abbrev pub judged_by : {A : Type 0} → Option Refused → A → Result A IdlFault
judged_by None a = Ok a
judged_by (Some r) a = Err (fault.Annotation r.at r.rule)

-- a note that can't be read, behind notes of which none may be refused whatever follows
abbrev pub after_notes : {A : Type 0} → Option Refused → Outcome A → Outcome A
after_notes None o = o
after_notes (Some r) o = Err (fault.Annotation r.at r.rule)

-- ---- what a function that reads ensures: the definition's outcome, unless memory was wanting

abbrev pub Reads : {X A : Type 0} → (X → A) → Outcome A → Result X IdlFault → Input → Type 0
Reads view outcome (Ok x) new = outcome ≡ Ok (view x, new)
Reads view outcome (Err e) new = e ≢ fault.OutOfMemory → outcome ≡ Err e

abbrev pub Judges : Option ℕ → ℕ → Result (Unit {0}) IdlFault → Type 0
Judges None at r = r ≡ Ok tt
Judges (Some rule) at r = r ≡ Err (fault.Annotation at rule)
