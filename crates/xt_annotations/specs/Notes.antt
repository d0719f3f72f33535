-- An annotation in a text, or the rule that it breaks: `@`, a name, and where a parameter is given `(`, one token and `)` (OMG IDL 4.2, 7.4.15;
-- one token is this profile's own).
use Rattle.std.specs.Prelude.{◌≡◌, ℕ, ◌+◌, ◌-◌, Bool, true, false, if◌then◌else◌, length, drop, Option, Some, None, Result, Ok, Err, codes}
use Rattle.idl_tokens.specs.Classes.{Text}
use Rattle.idl_tokens.specs.Tokens.{kind_at, spelling_at, after, is_word, sees}
use Rattle.xt_annotations.specs.declared.annotations.Annotation.{Annotation}
use Rattle.xt_annotations.specs.declared.annotations.ParameterKind.{ParameterKind}
use Rattle.xt_annotations.specs.declared.notes.Note.{Note}
use Rattle.xt_annotations.specs.declared.notes.RuleFault.{RuleFault}
use Rattle.xt_annotations.specs.declared.notes.Noted.{Noted}
use Rattle.xt_annotations.specs.declared.notes.NoteFault.{NoteFault}
use Rattle.xt_annotations.specs.Annotations.{annotation, takes, alone, is_outside}
use Rattle.xt_annotations.specs.Parameters.{parameter}

-- a note and the text after it, or the number of the rule that is broken
abbrev pub Read : Type 0
Read = Result (Note × Text) ℕ

-- A `)` has to follow the parameter's token. Its lack goes before a number's range.
abbrev pub closed : Result Note ℕ → Text → Read
closed (Err rule) text = if sees (codes ")") text then Err rule else Err 6
closed (Ok n) text = if sees (codes ")") text then Ok (n, after text) else Err 6

-- after the `(`
unfoldable pub in_parentheses : Annotation → Text → Read
in_parentheses a text = closed (parameter a (kind_at text) (spelling_at text)) (after text)

abbrev pub is_nothing : ParameterKind → Bool
is_nothing ParameterKind.Nothing = true
is_nothing _ = false

abbrev pub without : Option Note → Text → Read
without None text = Err 5
without (Some n) text = Ok (n, text)

-- after the annotation's name: a `(` always begins a parameter
unfoldable pub of_annotation : Annotation → Text → Read
of_annotation a text = if sees (codes "(") text then (if is_nothing (takes a) then Err 8 else in_parentheses a (after text)) else without (alone a) text

abbrev pub named : Option Annotation → Text → Read
named None text = Err 1
named (Some a) text = if is_outside a then Err 2 else of_annotation a text

-- the annotation whose `@` stands before the text
unfoldable pub note_after : Text → Read
note_after text = if is_word (kind_at text) then named (annotation (spelling_at text)) (after text) else Err 1

-- ---- what a function that reads ensures: what the definition gives, unless memory was wanting

abbrev pub Fails : {A : Type 0} → RuleFault → Result A ℕ → Type 0
Fails RuleFault.Memory read = Unit {0}
Fails (RuleFault.Rule r) read = read ≡ Err r

abbrev pub Gives : {X A : Type 0} → (X → A) → Result X RuleFault → Result A ℕ → Type 0
Gives view (Ok x) read = read ≡ Ok (view x)
Gives view (Err e) read = Fails e read

-- with the place after the note's last token in place of the text after it
abbrev pub with_end : ℕ → Read → Result (Note × ℕ) ℕ
with_end size (Ok p) = Ok (p.0, size - length p.1)
with_end size (Err rule) = Err rule

-- the annotation whose `@` stands at a place of a text
abbrev pub note_at : Text → ℕ → Result (Note × ℕ) ℕ
note_at text at = with_end (length text) (note_after (drop (at + 1) text))

abbrev pub Refuses : NoteFault → ℕ → Result (Note × ℕ) ℕ → Type 0
Refuses NoteFault.OutOfMemory at read = Unit {0}
Refuses (NoteFault.Refused r) at read = (r.at ≡ at) × (read ≡ Err r.rule)

-- the note that is read, unless memory was wanting, or the rule that is broken
abbrev pub IsRead : Result Noted NoteFault → ℕ → Result (Note × ℕ) ℕ → Type 0
IsRead (Ok n) at read = (n.placed.at ≡ at) × (read ≡ Ok (n.placed.note, n.end))
IsRead (Err e) at read = Refuses e at read
