-- Literals and flags are read as they are printed.
use Rattle.std.proofs.Common.{◌≡◌, ℕ, ◌≤◌, min, Bool, true, false, List, [], ◌∷◌, ◌++◌, Some, Ok, refl, sym, ap, ◌∙◌, append_assoc, arith}
use Rattle.std.specs.Prelude.{codes, decimal, ℤ}
use Rattle.std.specs.Fmt.{signed_decimal}
use Rattle.std.proofs.lemmas.List.{append-nil}
use Rattle.std.proofs.lemmas.Bool.{le-leb}
use Rattle.xt_shapes.specs.Lists.{all}
use Rattle.xt_shapes.specs.Typing.{in_range}
use Rattle.type_trees.specs.declared.types.Name.{Name}
use Rattle.type_trees.specs.declared.types.Literal.{Literal}
use Rattle.type_trees.specs.declared.types.Flag.{Flag}
use Rattle.xt_annotations.specs.declared.notes.Note.{Note}
use Rattle.xt_annotations.specs.declared.notes.Note.TheVariants as note
use Rattle.xt_annotations.specs.declared.places.Site.{Site}
use Rattle.xt_annotations.specs.Places.{same_setting}
use Rattle.idl_tokens.specs.declared.tokens.TokenKind.TheVariants.{Word}
use Rattle.idl_tokens.specs.Classes.{Text}
use Rattle.idl_tokens.specs.Tokens.{skip}
use Rattle.idl_tokens.specs.Tokens as tokens
use Rattle.idl_tokens.specs.names.Sets.{has}
use Rattle.idl_input.specs.Words.{is_keyword}
use Rattle.idl_input.specs.Input.{place}
use Rattle.idl_definitions.specs.declared.settings.Settings.{Settings}
use Rattle.idl_definitions.specs.Notes.{settings, without_notes}
use Rattle.idl_definitions.specs.Lists.{with_commas}
use Rattle.idl_definitions.specs.Members.{new_name}
use Rattle.idl_definitions.specs.Numbered.{Numbered, part, with_part, no_parts, literals, flags}
use Rattle.idl_printer.specs.Words.{name_text, text_if}
use Rattle.idl_printer.specs.Parts.{value_text, literal_text, more_literals, literals_text, position_text, more_flags, flags_text}
use Rattle.idl_laws.proofs.Fronts.{Front, ends, mark_front, front_at, skip_blank}
use Rattle.idl_laws.proofs.Steps.{at, Reads, not_seen, name_is}
use Rattle.idl_laws.proofs.NoteTexts.{is_told, notes_text}
use Rattle.idl_laws.proofs.Notes.{fit, behind_notes, said_from, notes_read, settings_are, word_ends_notes}
use Rattle.idl_laws.proofs.Names.{free_no_keyword}
use Rattle.idl_laws.proofs.Ahead.{free_front, free_behind}
use Rattle.idl_laws.proofs.Members.{IsNewName}
use Rattle.idl_laws.proofs.Commas.{more_text, with_parts, EachGood, BeginsNoted, commas_read}

abbrev pub AreLiterals : List Text → List Literal → Type 0
AreLiterals before [] = Unit {0}
AreLiterals before (l ∷ ls) = IsNewName before l.name × ((in_range 4 true l.value ≡ true) × AreLiterals (before ++ name_text l.name ∷ []) ls)

abbrev pub AreFlags : List Text → List Flag → Type 0
AreFlags before [] = Unit {0}
AreFlags before (f ∷ fs) = IsNewName before f.name × ((f.position ≤ 63) × AreFlags (before ++ name_text f.name ∷ []) fs)

-- what is read of literals; the names and what follows them aside
pub record ReadsLiterals (ls : List Literal) (text rest : Text) (size : ℕ) : Type 0 where
  pub read : Numbered Literal ℤ
  pub reads : with_commas (part literals) (no_parts literals) (at text size) ≡ Ok (read, at rest size)
  pub are : read.parts ≡ ls

pub record ReadsFlags (fs : List Flag) (text rest : Text) (size : ℕ) : Type 0 where
  pub read : Numbered Flag ℕ
  pub reads : with_commas (part flags) (no_parts flags) (at text size) ≡ Ok (read, at rest size)
  pub are : read.parts ≡ fs

-- a name that is new, wherever it stands
pub new_name_is : (names : List Text) (s text rest : Text) → Front Word s text rest → is_keyword s ≡ false → has s names ≡ false → (size : ℕ) → new_name names (at text size) ≡ Ok ((place (at text size), s), at rest size)
unfolding new_name
new_name_is names s text rest f free new size = rw (name_is f free size, new) refl

-- ---- one literal

literal_notes : Bool → ℤ → List Note
literal_notes true n = note.DefaultLiteral ∷ note.Number n ∷ []
literal_notes false n = note.Number n ∷ []

notes_of_literal : (d : Bool) (n : ℤ) → text_if d (codes "@default_literal ") ++ value_text n ≡ notes_text (literal_notes d n)
unfolding literal_notes
notes_of_literal true n = ap (λ (t : Text). codes "@default_literal " ++ t) (sym (append-nil (value_text n)))
notes_of_literal false n = sym (append-nil (value_text n))

literal_told : (d : Bool) (n : ℤ) → in_range 4 true n ≡ true → all is_told (literal_notes d n) ≡ true
unfolding literal_notes
literal_told true n fits = rw fits refl
literal_told false n fits = rw fits refl

literal_fit : (d : Bool) (n : ℤ) → fit Site.Literal (literal_notes d n) ≡ true
unfolding literal_notes same_setting
literal_fit true n = refl
literal_fit false n = refl

behind_literal : (d : Bool) (n : ℤ) (text rest : Text) → behind_notes (literal_notes d n) text rest ≡ 32 ∷ rest
unfolding literal_notes
behind_literal true n text rest = refl
behind_literal false n text rest = refl

default_said : (d : Bool) (n : ℤ) → (said_from (literal_notes d n) without_notes).is_default ≡ d
unfolding literal_notes
default_said true n = refl
default_said false n = refl

number_said : (d : Bool) (n : ℤ) → (said_from (literal_notes d n) without_notes).number ≡ Some n
unfolding literal_notes
number_said true n = refl
number_said false n = refl

abbrev GoodLiteral : Numbered Literal ℤ → Literal → Type 0
GoodLiteral r l = IsNewName r.names l.name × (in_range 4 true l.value ≡ true)

abbrev with_own_literal : Numbered Literal ℤ → Literal → Numbered Literal ℤ
with_own_literal r l = with_part literals r (name_text l.name) l

literal_text_is : (l : Literal) (s rest : Text) → l.name ≡ Name.Full s → literal_text l ++ rest ≡ notes_text (literal_notes l.is_default l.value) ++ (s ++ rest)
unfolding literal_text
literal_text_is l s rest is =
    let notes = text_if l.is_default (codes "@default_literal ") ++ value_text l.value in
    ap (λ (n : Name). (notes ++ name_text n) ++ rest) is ∙ (append_assoc notes s rest ∙ ap (λ (t : Text). t ++ (s ++ rest)) (notes_of_literal l.is_default l.value))

literal_read : (r : Numbered Literal ℤ) (l : Literal) → GoodLiteral r l → (text rest : Text) → skip text ≡ skip (literal_text l ++ rest) → ends rest ≡ true → Reads (part literals r) text (with_own_literal r l) rest
unfolding part
literal_read r l good text rest begins over size =
    let called = good.0 in
    let notes = literal_notes l.is_default l.value in
    let word = free_front called.s rest called.free over in
    let read = notes_read Site.Literal notes text (called.s ++ rest)
    (begins ∙ ap skip (literal_text_is l called.s rest called.is)) (literal_told l.is_default l.value good.1) (literal_fit l.is_default l.value) (word_ends_notes word) size in
    let said : settings read.placed ≡ said_from notes without_notes = settings_are read.placed ∙ ap (λ (ns : List Note). said_from ns without_notes) read.are in
    let is_default : (settings read.placed).is_default ≡ l.is_default = ap (λ (s : Settings). s.is_default) said ∙ default_said l.is_default l.value in
    let number : (settings read.placed).number ≡ Some l.value = ap (λ (s : Settings). s.number) said ∙ number_said l.is_default l.value in
    rw (
      read.reads,
      behind_literal l.is_default l.value text (called.s ++ rest),
      new_name_is r.names called.s (32 ∷ called.s ++ rest) rest (free_behind called.s rest called.free over) (free_no_keyword called.s called.free) called.new size,
      number,
      is_default,
    )
    (ap (λ (n : Name). Ok (with_part literals r (name_text n) (record { name = n; value = l.value; is_default = l.is_default }), at rest size)) (sym called.is))

-- ---- literals

literal_begins : (d : Bool) (n : ℤ) (name : Text) → BeginsNoted (text_if d (codes "@default_literal ") ++ value_text n ++ name)
literal_begins true n name = record { others = codes "default_literal " ++ value_text n ++ name; is = refl }
literal_begins false n name = record { others = codes "value(" ++ signed_decimal n ++ codes ") " ++ name; is = refl }

literal_noted : (l : Literal) → BeginsNoted (literal_text l)
unfolding literal_text
literal_noted l = literal_begins l.is_default l.value (name_text l.name)

more_literals_are : (ls : List Literal) → more_literals ls ≡ more_text literal_text ls
more_literals_are [] = refl
more_literals_are (l ∷ ls) = ap (λ (t : Text). codes ", " ++ literal_text l ++ t) (more_literals_are ls)

each_literal : (ls : List Literal) (r : Numbered Literal ℤ) → AreLiterals r.names ls → EachGood with_own_literal GoodLiteral r ls
each_literal [] r are = tt
each_literal (l ∷ ls) r are = ((are.0, are.1.0), each_literal ls (with_own_literal r l) are.1.1)

listed_literals : (ls : List Literal) (r : Numbered Literal ℤ) → (with_parts with_own_literal r ls).parts ≡ r.parts ++ ls
listed_literals [] r = sym (append-nil r.parts)
listed_literals (l ∷ ls) r = listed_literals ls (with_own_literal r l) ∙ append_assoc r.parts (l ∷ []) ls

no_comma : (rest : Text) → tokens.sees (codes ",") (32 ∷ 125 ∷ rest) ≡ false
no_comma rest = not_seen (codes ",") (front_at (32 ∷ 125 ∷ rest) (skip_blank (125 ∷ rest)) (mark_front 125 rest refl)) refl

-- literals, before ` }`
pub literals_read : (l : Literal) (ls : List Literal) → AreLiterals [] (l ∷ ls) → (text rest : Text) → skip text ≡ skip (literals_text (l ∷ ls) ++ 32 ∷ 125 ∷ rest) → (size : ℕ) → ReadsLiterals (l ∷ ls) text (32 ∷ 125 ∷ rest) size
literals_read l ls are text rest begins size = record {
  read = with_parts with_own_literal (no_parts literals) (l ∷ ls);
  reads = commas_read (part literals) literal_text with_own_literal GoodLiteral literal_read (32 ∷ 125 ∷ rest) refl (no_comma rest) l ls (no_parts literals) (each_literal (l ∷ ls) (no_parts literals) are) (literal_noted l) text
      (begins ∙ ap (λ (t : Text). skip (literal_text l ++ t ++ 32 ∷ 125 ∷ rest)) (more_literals_are ls)) size;
  are = listed_literals (l ∷ ls) (no_parts literals);
}

-- ---- one flag

abbrev flag_notes : ℕ → List Note
flag_notes p = note.Position p ∷ []

flag_told : (p : ℕ) → p ≤ 63 → all is_told (flag_notes p) ≡ true
flag_told p fits = rw (le-leb p 63 fits) refl

flag_fit : (p : ℕ) → fit Site.Flag (flag_notes p) ≡ true
unfolding same_setting
flag_fit p = refl

position_said : (p : ℕ) → p ≤ 63 → (said_from (flag_notes p) without_notes).position ≡ Some p
position_said p fits = let same : min p 255 ≡ p = omega arith in ap (λ (n : ℕ). Some n) same

abbrev GoodFlag : Numbered Flag ℕ → Flag → Type 0
GoodFlag r f = IsNewName r.names f.name × (f.position ≤ 63)

abbrev with_own_flag : Numbered Flag ℕ → Flag → Numbered Flag ℕ
with_own_flag r f = with_part flags r (name_text f.name) f

flag_text_is : (f : Flag) (s rest : Text) → f.name ≡ Name.Full s → position_text f ++ rest ≡ notes_text (flag_notes f.position) ++ (s ++ rest)
unfolding position_text
flag_text_is f s rest is =
    let notes = codes "@position(" ++ decimal f.position ++ codes ") " in
    ap (λ (n : Name). (notes ++ name_text n) ++ rest) is ∙ (append_assoc notes s rest ∙ ap (λ (t : Text). t ++ (s ++ rest)) (sym (append-nil notes)))

flag_read : (r : Numbered Flag ℕ) (f : Flag) → GoodFlag r f → (text rest : Text) → skip text ≡ skip (position_text f ++ rest) → ends rest ≡ true → Reads (part flags r) text (with_own_flag r f) rest
unfolding part
flag_read r f good text rest begins over size =
    let called = good.0 in
    let notes = flag_notes f.position in
    let word = free_front called.s rest called.free over in
    let read = notes_read Site.Flag notes text (called.s ++ rest)
    (begins ∙ ap skip (flag_text_is f called.s rest called.is)) (flag_told f.position good.1) (flag_fit f.position) (word_ends_notes word) size in
    let said : settings read.placed ≡ said_from notes without_notes = settings_are read.placed ∙ ap (λ (ns : List Note). said_from ns without_notes) read.are in
    let position : (settings read.placed).position ≡ Some f.position = ap (λ (s : Settings). s.position) said ∙ position_said f.position good.1 in
    rw (read.reads, new_name_is r.names called.s (32 ∷ called.s ++ rest) rest (free_behind called.s rest called.free over) (free_no_keyword called.s called.free) called.new size, position)
    (ap (λ (n : Name). Ok (with_part flags r (name_text n) (record { name = n; position = f.position }), at rest size)) (sym called.is))

-- ---- flags

flag_noted : (f : Flag) → BeginsNoted (position_text f)
unfolding position_text
flag_noted f = record { others = codes "position(" ++ decimal f.position ++ codes ") " ++ name_text f.name; is = refl }

more_flags_are : (fs : List Flag) → more_flags fs ≡ more_text position_text fs
more_flags_are [] = refl
more_flags_are (f ∷ fs) = ap (λ (t : Text). codes ", " ++ position_text f ++ t) (more_flags_are fs)

each_flag : (fs : List Flag) (r : Numbered Flag ℕ) → AreFlags r.names fs → EachGood with_own_flag GoodFlag r fs
each_flag [] r are = tt
each_flag (f ∷ fs) r are = ((are.0, are.1.0), each_flag fs (with_own_flag r f) are.1.1)

listed_flags : (fs : List Flag) (r : Numbered Flag ℕ) → (with_parts with_own_flag r fs).parts ≡ r.parts ++ fs
listed_flags [] r = sym (append-nil r.parts)
listed_flags (f ∷ fs) r = listed_flags fs (with_own_flag r f) ∙ append_assoc r.parts (f ∷ []) fs

-- flags, before ` }`
pub flags_read : (f : Flag) (fs : List Flag) → AreFlags [] (f ∷ fs) → (text rest : Text) → skip text ≡ skip (flags_text (f ∷ fs) ++ 32 ∷ 125 ∷ rest) → (size : ℕ) → ReadsFlags (f ∷ fs) text (32 ∷ 125 ∷ rest) size
flags_read f fs are text rest begins size = record {
  read = with_parts with_own_flag (no_parts flags) (f ∷ fs);
  reads = commas_read (part flags) position_text with_own_flag GoodFlag flag_read (32 ∷ 125 ∷ rest) refl (no_comma rest) f fs (no_parts flags) (each_flag (f ∷ fs) (no_parts flags) are) (flag_noted f) text
      (begins ∙ ap (λ (t : Text). skip (position_text f ++ t ++ 32 ∷ 125 ∷ rest)) (more_flags_are fs)) size;
  are = listed_flags (f ∷ fs) (no_parts flags);
}
