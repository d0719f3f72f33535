-- Annotations are read as they are printed.
use Rattle.std.proofs.Common.{◌≡◌, ℕ, zero, suc, ◌≤◌, Bool, true, false, eqb, not, ◌&&◌, ◌||◌, List, [], ◌∷◌, ◌++◌, length, Option, Some, None, Ok, refl, sym, ap, subst, ◌∙◌, append_assoc, arith}
use Rattle.std.specs.Prelude.{codes}
use Rattle.std.proofs.lemmas.Bool.{true≢false, false_from_ne_true, not-true, and_parts, or_parts, or_from}
use Rattle.std.specs.Str.{bytes_eq}
use Rattle.std.proofs.lemmas.Slice.Eq.{bytes_eq-Decides}
use Rattle.std.proofs.lemmas.List.{length-append, append-nil}
use Rattle.xt_shapes.specs.Lists.{all}
use Rattle.xt_annotations.specs.declared.notes.Note.{Note}
use Rattle.xt_annotations.specs.declared.notes.Placed.{Placed}
use Rattle.xt_annotations.specs.declared.notes.Refused.{Refused}
use Rattle.xt_annotations.specs.declared.places.Site.{Site}
use Rattle.xt_annotations.specs.declared.places.Setting.{Setting}
use Rattle.xt_annotations.specs.Places.{allowed, setting, same_setting, is_wide, has, excludes, breaks, first_refused}
use Rattle.idl_tokens.specs.Classes.{Text}
use Rattle.idl_tokens.specs.declared.tokens.Token.{Token}
use Rattle.idl_tokens.specs.Tokens.{skip, a_token, is_mark}
use Rattle.idl_tokens.specs.Tokens as tokens
use Rattle.idl_input.specs.Input.{Input, place, left, notes_from, notes_at, sees as input_sees, note as a_note}
use Rattle.idl_definitions.specs.declared.settings.Settings.{Settings}
use Rattle.idl_definitions.specs.Notes.{with_setting, settings_from, settings, without_notes}
use Rattle.idl_laws.proofs.Fronts.{Front, front_at, front_after, mark_front, skip_blank, skip_short}
use Rattle.idl_laws.proofs.Steps.{at, sees_is, not_seen, keyword_is, same_sees}
use Rattle.idl_laws.proofs.NoteReads.{note_body, note_text_is, note_reads}
use Rattle.idl_laws.proofs.NoteTexts.{note_text, is_told, notes_text, notes_of, ReadsNotes}
use Rattle.xt_idl.specs.Leading.{or_earlier, leading_from, leading, leading_notes, site_of}
use Rattle.idl_input.specs.Words.{keyword}
use Rattle.idl_tokens.specs.declared.tokens.TokenKind.TheVariants.{Word, Mark}

-- ---- where notes may stand

abbrev pub sets : Setting → List Note → Bool
sets s [] = false
sets s (n ∷ ns) = same_setting (setting n) s || sets s ns

-- Each note may stand at the site, is not wide there, and sets what none before it sets. None gives an id by a name.
abbrev pub fit_from : Site → List Note → List Note → Bool
fit_from site before [] = true
fit_from site before (n ∷ ns) = ((not (is_wide site n) && allowed site (setting n)) && (not (sets (setting n) before) && not (same_setting (setting n) Setting.HashId))) && fit_from site (before ++ n ∷ []) ns

abbrev pub fit : Site → List Note → Bool
fit site notes = fit_from site [] notes

-- no note begins here, and no parameter
pub record EndsNotes (rest : Text) : Type 0 where
  pub no_note : tokens.sees (codes "@") rest ≡ false
  pub no_parameter : tokens.sees (codes "(") rest ≡ false

-- the text behind notes: a blank follows each
abbrev pub behind_notes : List Note → Text → Text → Text
behind_notes [] text rest = text
behind_notes (n ∷ ns) text rest = 32 ∷ rest

-- ---- no note breaks a rule

has_is : (s : Setting) (placed : List Placed) → has s placed ≡ sets s (notes_of placed)
has_is s [] = refl
has_is s (p ∷ ps) = rw (has_is s ps) refl

sets_more : (s : Setting) (ns : List Note) (n : Note) → sets s ns ≡ false → same_setting (setting n) s ≡ false → sets s (ns ++ n ∷ []) ≡ false
sets_more s [] n none other = or_from _ _ other refl
sets_more s (m ∷ ns) n none other =
    let both = or_parts (same_setting (setting m) s) (sets s ns) none in
    or_from _ _ both.0 (sets_more s ns n both.1 other)

notes_more : (placed : List Placed) (p : Placed) → notes_of (placed ++ p ∷ []) ≡ notes_of placed ++ p.note ∷ []
notes_more [] p = refl
notes_more (q ∷ ps) p = ap (λ (ns : List Note). q.note ∷ ns) (notes_more ps p)

-- notes that may stand first, and set no id by a name
record Before (placed : List Placed) (notes : List Note) : Type 0 where
  are : notes_of placed ≡ notes
  no_hash : sets Setting.HashId notes ≡ false

-- what the next note keeps to
record Fits (site : Site) (before : List Note) (n : Note) : Type 0 where
  narrow : is_wide site n ≡ false
  allowed_there : allowed site (setting n) ≡ true
  new : sets (setting n) before ≡ false
  no_hash : same_setting (setting n) Setting.HashId ≡ false

fits_head : (site : Site) (before : List Note) (n : Note) (ns : List Note) → fit_from site before (n ∷ ns) ≡ true → Fits site before n × (fit_from site (before ++ n ∷ []) ns ≡ true)
fits_head site before n ns fits =
    let both = and_parts ((not (is_wide site n) && allowed site (setting n)) && (not (sets (setting n) before) && not (same_setting (setting n) Setting.HashId))) (fit_from site (before ++ n ∷ []) ns) fits in
    let halves = and_parts (not (is_wide site n) && allowed site (setting n)) (not (sets (setting n) before) && not (same_setting (setting n) Setting.HashId)) both.0 in
    let stands = and_parts (not (is_wide site n)) (allowed site (setting n)) halves.0 in
    let sets_new = and_parts (not (sets (setting n) before)) (not (same_setting (setting n) Setting.HashId)) halves.1 in
    (record { narrow = not-true _ stands.0; allowed_there = stands.1; new = not-true _ sets_new.0; no_hash = not-true _ sets_new.1 }, both.1)

excludes_none : (s : Setting) (placed : List Placed) → has Setting.HashId placed ≡ false → same_setting s Setting.HashId ≡ false → excludes s placed ≡ false
unfolding same_setting
excludes_none Setting.Id placed none other = none
excludes_none Setting.HashId placed none other = absurd (true≢false other)
excludes_none _ placed none other = refl

breaks_none : (site : Site) (placed : List Placed) (notes : List Note) (n : Note) → Before placed notes → Fits site notes n → breaks site placed n ≡ None
unfolding breaks
breaks_none site placed notes n b f =
    let new : has (setting n) placed ≡ false = has_is (setting n) placed ∙ rw b.are f.new in
    let no_hash : has Setting.HashId placed ≡ false = has_is Setting.HashId placed ∙ rw b.are b.no_hash in
    rw (f.narrow, f.allowed_there, new, excludes_none (setting n) placed no_hash f.no_hash) refl

before_more : (site : Site) (placed : List Placed) (notes : List Note) (p : Placed) → Before placed notes → Fits site notes p.note → Before (placed ++ p ∷ []) (notes ++ p.note ∷ [])
before_more site placed notes p b f = record {
  are = notes_more placed p ∙ ap (λ (ns : List Note). ns ++ p.note ∷ []) b.are;
  no_hash = sets_more Setting.HashId notes p.note b.no_hash f.no_hash;
}

-- ---- one note after another

note_front : (n : Note) (more text : Text) → skip text ≡ skip (note_text n ++ more) → is_told n ≡ true → Front Mark (codes "@") text (note_body n ++ 32 ∷ more)
note_front n more text begins told =
    let e : note_text n ++ more ≡ 64 ∷ (note_body n ++ 32 ∷ more) = ap (λ (t : Text). t ++ more) (note_text_is n told) ∙ ap (λ (t : Text). 64 ∷ t) (append_assoc (note_body n) (32 ∷ []) more) in
    front_at text (begins ∙ ap skip e) (mark_front 64 (note_body n ++ 32 ∷ more) refl)

first_front : (n : Note) (ns : List Note) (rest text : Text) → skip text ≡ skip (notes_text (n ∷ ns) ++ rest) → is_told n ≡ true → Front Mark (codes "@") text (note_body n ++ 32 ∷ (notes_text ns ++ rest))
first_front n ns rest text begins told = note_front n (notes_text ns ++ rest) text (begins ∙ ap skip (append_assoc (note_text n) (notes_text ns) rest)) told

no_parameter_behind : (ns : List Note) (rest : Text) → all is_told ns ≡ true → tokens.sees (codes "(") rest ≡ false → tokens.sees (codes "(") (32 ∷ (notes_text ns ++ rest)) ≡ false
no_parameter_behind [] rest told none = same_sees (codes "(") (32 ∷ rest) rest (skip_blank rest) ∙ none
no_parameter_behind (n ∷ ns) rest told none =
    let both = and_parts (is_told n) (all is_told ns) told in
    not_seen (codes "(") (first_front n ns rest (32 ∷ (notes_text (n ∷ ns) ++ rest)) (skip_blank (notes_text (n ∷ ns) ++ rest)) both.0) refl

left_behind : (ns : List Note) (rest : Text) → behind_notes ns (32 ∷ (notes_text ns ++ rest)) rest ≡ 32 ∷ rest
left_behind [] rest = refl
left_behind (n ∷ ns) rest = refl

-- the note that is read at a text
abbrev placed_at : Text → ℕ → Note → Placed
placed_at text size n = record { at = place (at text size); note = n }

note_read : (n : Note) (more text : Text) → Front Mark (codes "@") text (note_body n ++ 32 ∷ more) → is_told n ≡ true →
    tokens.sees (codes "(") (32 ∷ more) ≡ false → (size : ℕ) → a_note (at text size) ≡ Ok (placed_at text size n, at (32 ∷ more) size)
unfolding a_note
note_read n more text f told none size = rw (front_after f, note_reads n more told none) refl

count_notes : (notes : List Note) (rest : Text) → all is_told notes ≡ true → length notes ≤ length (skip (notes_text notes ++ rest))
count_notes [] rest told = omega arith
count_notes (n ∷ ns) rest told =
    let both = and_parts (is_told n) (all is_told ns) told in
    let f = first_front n ns rest (notes_text (n ∷ ns) ++ rest) refl both.0 in
    let e : length (skip (notes_text (n ∷ ns) ++ rest)) ≡ suc (length (note_body n ++ 32 ∷ (notes_text ns ++ rest))) = ap (λ (t : Text). length t) f.at in
    omega (arith, e, length-append (note_body n) (32 ∷ (notes_text ns ++ rest)), skip_short (notes_text ns ++ rest), count_notes ns rest both.1)

-- ---- notes at a site

notes_step : (site : Site) (fuel : ℕ) (before : List Placed) (n : Note) (more text : Text) (size : ℕ) → Front Mark (codes "@") text (note_body n ++ 32 ∷ more) → is_told n ≡ true →
    tokens.sees (codes "(") (32 ∷ more) ≡ false → breaks site before (placed_at text size n).note ≡ None →
    notes_from site (suc fuel) before (at text size) ≡ notes_from site fuel (before ++ placed_at text size n ∷ []) (at (32 ∷ more) size)
unfolding notes_from
notes_step site fuel before n more text size f told none free = rw (sees_is f refl size, note_read n more text f told none size, free) refl

notes_stop : (site : Site) (fuel : ℕ) (before : List Placed) (text : Text) (size : ℕ) → tokens.sees (codes "@") text ≡ false → notes_from site fuel before (at text size) ≡ Ok (before, at text size)
unfolding notes_from input_sees
notes_stop site zero before text size none = refl
notes_stop site (suc fuel) before text size none = rw none refl

record Looped (site : Site) (fuel : ℕ) (before : List Placed) (text : Text) (notes : List Note) (rest : Text) (size : ℕ) : Type 0 where
  placed : List Placed
  reads : notes_from site fuel before (at text size) ≡ Ok (before ++ placed, at rest size)
  are : notes_of placed ≡ notes

notes_loop : (site : Site) (notes : List Note) (fuel : ℕ) (before : List Placed) (earlier : List Note) (text rest : Text) (size : ℕ) → length notes ≤ fuel → Before before earlier →
    skip text ≡ skip (notes_text notes ++ rest) → all is_told notes ≡ true → fit_from site earlier notes ≡ true → EndsNotes rest →
    Looped site fuel before text notes (behind_notes notes text rest) size
notes_loop site [] fuel before earlier text rest size enough b begins told fits over = record {
  placed = [];
  reads = notes_stop site fuel before text size (same_sees (codes "@") text rest begins ∙ over.no_note) ∙ ap (λ (ps : List Placed). Ok (ps, at text size)) (sym (append-nil before));
  are = refl;
}
notes_loop site (n ∷ ns) zero before earlier text rest size enough b begins told fits over = absurd (omega arith)
notes_loop site (n ∷ ns) (suc fuel) before earlier text rest size enough b begins told fits over =
    let tells = and_parts (is_told n) (all is_told ns) told in
    let head = fits_head site earlier n ns fits in
    let p = placed_at text size n in
    let f = first_front n ns rest text begins tells.0 in
    let step = notes_step site fuel before n (notes_text ns ++ rest) text size f tells.0 (no_parameter_behind ns rest tells.1 over.no_parameter) (breaks_none site before earlier n b head.0) in
    let next = before_more site before earlier p b head.0 in
    let later = notes_loop site ns fuel (before ++ p ∷ []) (earlier ++ n ∷ []) (32 ∷ (notes_text ns ++ rest)) rest size (omega arith) next (skip_blank (notes_text ns ++ rest)) tells.1 head.1 over in
    record {
      placed = p ∷ later.placed;
      reads = step ∙ (later.reads ∙ rw (append_assoc before (p ∷ []) later.placed, left_behind ns rest) refl);
      are = ap (λ (ms : List Note). n ∷ ms) later.are;
    }

pub notes_read : (site : Site) (notes : List Note) (text rest : Text) → skip text ≡ skip (notes_text notes ++ rest) → all is_told notes ≡ true → fit site notes ≡ true → EndsNotes rest →
    (size : ℕ) → ReadsNotes site text notes (behind_notes notes text rest) size
unfolding notes_at left
notes_read site notes text rest begins told fits over size =
    let enough : length notes ≤ length (skip text) = rw begins (count_notes notes rest told) in
    let read = notes_loop site notes (length (skip text)) [] [] text rest size enough (record { are = refl; no_hash = refl }) begins told fits over in
    record { placed = read.placed; reads = read.reads; are = read.are }

-- ---- before a definition

pub record ReadsLeading (text : Text) (notes : List Note) (rest : Text) (size : ℕ) : Type 0 where
  pub placed : List Placed
  pub reads : leading_notes (at text size) ≡ Ok (placed, at rest size)
  pub are : notes_of placed ≡ notes

-- ---- before a definition, whatever follows

or_earlier_read : (r : Option Refused) (p : Placed) (i : Input) → or_earlier r (Ok (p, i)) ≡ Ok (p, i)
or_earlier_read None p i = refl
or_earlier_read (Some r) p i = refl

leading_step : (fuel : ℕ) (before : List Placed) (n : Note) (more text : Text) (size : ℕ) → Front Mark (codes "@") text (note_body n ++ 32 ∷ more) → is_told n ≡ true →
    tokens.sees (codes "(") (32 ∷ more) ≡ false → leading_from (suc fuel) before (at text size) ≡ leading_from fuel (before ++ placed_at text size n ∷ []) (at (32 ∷ more) size)
unfolding leading_from
leading_step fuel before n more text size f told none =
    rw (sees_is f refl size, note_read n more text f told none size, or_earlier_read (first_refused Site.AnyDefinition [] before) (placed_at text size n) (at (32 ∷ more) size)) refl

leading_stop : (fuel : ℕ) (before : List Placed) (text : Text) (size : ℕ) → tokens.sees (codes "@") text ≡ false → leading_from fuel before (at text size) ≡ Ok (before, at text size)
unfolding leading_from input_sees
leading_stop zero before text size none = refl
leading_stop (suc fuel) before text size none = rw none refl

record LeadingLooped (fuel : ℕ) (before : List Placed) (text : Text) (notes : List Note) (rest : Text) (size : ℕ) : Type 0 where
  placed : List Placed
  reads : leading_from fuel before (at text size) ≡ Ok (before ++ placed, at rest size)
  are : notes_of placed ≡ notes

leading_loop : (notes : List Note) (fuel : ℕ) (before : List Placed) (text rest : Text) (size : ℕ) → length notes ≤ fuel → skip text ≡ skip (notes_text notes ++ rest) →
    all is_told notes ≡ true → EndsNotes rest → LeadingLooped fuel before text notes (behind_notes notes text rest) size
leading_loop [] fuel before text rest size enough begins told over = record {
  placed = [];
  reads = leading_stop fuel before text size (same_sees (codes "@") text rest begins ∙ over.no_note) ∙ ap (λ (ps : List Placed). Ok (ps, at text size)) (sym (append-nil before));
  are = refl;
}
leading_loop (n ∷ ns) zero before text rest size enough begins told over = absurd (omega arith)
leading_loop (n ∷ ns) (suc fuel) before text rest size enough begins told over =
    let tells = and_parts (is_told n) (all is_told ns) told in
    let p = placed_at text size n in
    let f = first_front n ns rest text begins tells.0 in
    let step = leading_step fuel before n (notes_text ns ++ rest) text size f tells.0 (no_parameter_behind ns rest tells.1 over.no_parameter) in
    let later = leading_loop ns fuel (before ++ p ∷ []) (32 ∷ (notes_text ns ++ rest)) rest size (omega arith) (skip_blank (notes_text ns ++ rest)) tells.1 over in
    record {
      placed = p ∷ later.placed;
      reads = step ∙ (later.reads ∙ rw (append_assoc before (p ∷ []) later.placed, left_behind ns rest) refl);
      are = ap (λ (ms : List Note). n ∷ ms) later.are;
    }

first_refused_none : (site : Site) (placed before : List Placed) (earlier : List Note) → Before before earlier → fit_from site earlier (notes_of placed) ≡ true → first_refused site before placed ≡ None
first_refused_none site [] before earlier b fits = refl
first_refused_none site (p ∷ ps) before earlier b fits =
    let head = fits_head site earlier p.note (notes_of ps) fits in
    rw (breaks_none site before earlier p.note b head.0, first_refused_none site ps (before ++ p ∷ []) (earlier ++ p.note ∷ []) (before_more site before earlier p b head.0) head.1) refl

mark_no_word : (b : ℕ) (more : Text) → (is_mark b && not (eqb b 58)) ≡ true → tokens.token (b ∷ more) ≡ a_token Word 1 → ⊥
mark_no_word b more is e = let k : Word ≡ Mark = ap (λ (t : Token). t.kind) (sym e ∙ (mark_front b more is).read) in cc

-- no word is a mark
word_no_mark : (w rest more : Text) (b : ℕ) → Front Word w rest more → (is_mark b && not (eqb b 58)) ≡ true → tokens.sees (b ∷ []) rest ≡ false
word_no_mark w rest more b first is =
    let apart : bytes_eq w (b ∷ []) ≡ false = false_from_ne_true (bytes_eq w (b ∷ [])) (λ e. mark_no_word b more is
    (subst (λ (s : Text). tokens.token (s ++ more) ≡ a_token Word (length s)) ((bytes_eq-Decides w (b ∷ [])).0 e) first.read)) in
    not_seen (b ∷ []) first (rw apart refl)

-- a word begins neither a note nor a parameter
pub word_ends_notes : {w rest more : Text} → Front Word w rest more → EndsNotes rest
word_ends_notes {w} {rest} {more} first = record { no_note = word_no_mark w rest more 64 first refl; no_parameter = word_no_mark w rest more 40 first refl }

keyword_behind : (w : Text) (notes : List Note) (text rest more : Text) → skip text ≡ skip (notes_text notes ++ rest) → Front Word w rest more → Front Word w (behind_notes notes text rest) more
keyword_behind w [] text rest more begins first = front_at text begins first
keyword_behind w (n ∷ ns) text rest more begins first = front_at (32 ∷ rest) (skip_blank rest) first

pub leading_read : (w : Text) (notes : List Note) (text rest more : Text) → skip text ≡ skip (notes_text notes ++ rest) → Front Word w rest more → all is_told notes ≡ true →
    fit (site_of (keyword w)) notes ≡ true → (size : ℕ) → ReadsLeading text notes (behind_notes notes text rest) size
unfolding leading_notes leading left
leading_read w notes text rest more begins first told fits size =
    let over = word_ends_notes first in
    let enough : length notes ≤ length (skip text) = rw begins (count_notes notes rest told) in
    let read = leading_loop notes (length (skip text)) [] text rest size enough begins told over in
    let fit_read : fit (site_of (keyword w)) (notes_of read.placed) ≡ true = rw read.are fits in
    let none = first_refused_none (site_of (keyword w)) read.placed [] [] (record { are = refl; no_hash = refl }) fit_read in
    record { placed = read.placed; reads = rw (read.reads, keyword_is (keyword_behind w notes text rest more begins first) size, none) refl; are = read.are }

-- ---- what notes say, wherever they stand

abbrev pub said_from : List Note → Settings → Settings
said_from [] s = s
said_from (n ∷ ns) s = said_from ns (with_setting n s)

settings_from_are : (placed : List Placed) (s : Settings) → settings_from placed s ≡ said_from (notes_of placed) s
settings_from_are [] s = refl
settings_from_are (p ∷ ps) s = settings_from_are ps (with_setting p.note s)

pub settings_are : (placed : List Placed) → settings placed ≡ said_from (notes_of placed) without_notes
settings_are placed = settings_from_are placed without_notes
