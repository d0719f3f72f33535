-- What comes next in a text, and what doesn't.
use Rattle.std.proofs.Common.{◌≡◌, ℕ, true, false, not, ◌&&◌, eqb, List, [], ◌∷◌, ◌++◌, refl, sym, ap, ◌∙◌}
use Rattle.std.proofs.lemmas.Bool.{false≢true, and_parts, false_from_ne_true}
use Rattle.std.proofs.lemmas.Slice.Eq.{bytes_eq-Decides}
use Rattle.std.specs.Str.{bytes_eq}
use Rattle.node_rules.specs.Names.{is_identifier}
use Rattle.xt_annotations.specs.declared.notes.Note.{Note}
use Rattle.idl_tokens.specs.Classes.{Text}
use Rattle.idl_tokens.specs.Tokens.{skip, is_mark}
use Rattle.idl_tokens.specs.Tokens as tokens
use Rattle.idl_tokens.specs.declared.tokens.TokenKind.TheVariants.{Word, Mark}
use Rattle.idl_input.specs.Words.{is_keyword}
use Rattle.idl_input.specs.Input.{sees, after_if}
use Rattle.idl_laws.proofs.Fronts.{Front, ends, front_at, skip_blank, word_front, mark_front}
use Rattle.idl_laws.proofs.Steps.{at, not_seen, same_sees}
use Rattle.idl_laws.proofs.NoteTexts.{notes_text}
use Rattle.idl_laws.proofs.Notes.{behind_notes}
use Rattle.idl_laws.proofs.Names.{is_free}

-- ---- what doesn't come is not taken

pub sees_no : (wanted text : Text) → tokens.sees wanted text ≡ false → (size : ℕ) → sees wanted (at text size) ≡ false
unfolding sees
sees_no wanted text absent size = absent

pub after_if_no : (wanted text : Text) → tokens.sees wanted text ≡ false → (size : ℕ) → after_if wanted (at text size) ≡ at text size
unfolding sees after_if
after_if_no wanted text absent size = rw absent refl

-- ---- a name that is free is no other word

pub not_word : (s w : Text) → is_free w ≡ false → is_free s ≡ true → bytes_eq s w ≡ false
not_word s w absent free = false_from_ne_true (bytes_eq s w) (λ same. false≢true (sym absent ∙ ap is_free (sym ((bytes_eq-Decides s w).0 same)) ∙ free))

pub free_front : (s rest : Text) → is_free s ≡ true → ends rest ≡ true → Front Word s (s ++ rest) rest
free_front s rest free over = word_front s rest (and_parts (is_identifier s) (not (is_keyword s)) free).0 over

pub free_behind : (s rest : Text) → is_free s ≡ true → ends rest ≡ true → Front Word s (32 ∷ s ++ rest) rest
free_behind s rest free over = front_at (32 ∷ s ++ rest) (skip_blank (s ++ rest)) (free_front s rest free over)

-- what comes is no such word or mark, as a free name comes
pub free_not : (s rest wanted : Text) → is_free s ≡ true → ends rest ≡ true → is_free wanted ≡ false → tokens.sees wanted (32 ∷ s ++ rest) ≡ false
free_not s rest wanted free over absent = not_seen wanted (free_behind s rest free over) (rw (not_word s wanted absent free) refl)

-- ---- words that are known, and what notes leave

pub word_at : (w text rest : Text) → skip text ≡ skip (w ++ rest) → is_identifier w ≡ true → ends rest ≡ true → Front Word w text rest
word_at w text rest begins is over = front_at text begins (word_front w rest is over)

pub behind_skips : (notes : List Note) (text rest : Text) → skip text ≡ skip (notes_text notes ++ rest) → skip (behind_notes notes text rest) ≡ skip rest
behind_skips [] text rest begins = begins
behind_skips (n ∷ ns) text rest begins = skip_blank rest

-- a mark other than a colon
pub mark_at : (b : ℕ) {text rest : Text} → skip text ≡ skip (b ∷ rest) → (is_mark b && not (eqb b 58)) ≡ true → Front Mark (b ∷ []) text rest
mark_at b begins is = front_at _ begins (mark_front b _ is)

-- what comes next is the same behind a blank
pub sees_blank : (s text : Text) → tokens.sees s (32 ∷ text) ≡ tokens.sees s text
sees_blank s text = same_sees s (32 ∷ text) text (skip_blank text)
