-- Worked examples of annotations, by computation (DDS-XTypes 1.3, 7.3.1.2).
use Rattle.std.specs.Prelude.{◌≡◌, [], ◌∷◌, Some, Ok, Err, codes, refl}
use Rattle.xt_shapes.specs.declared.leaves.Ext.{Ext}
use Rattle.idl_tokens.specs.Numerals.{is_numeral, magnitude, unsigned_in}
use Rattle.idl_tokens.specs.Tokens.{token, blank, skip, sees}
use Rattle.xt_annotations.specs.declared.notes.Note.TheVariants as note
use Rattle.xt_annotations.specs.declared.places.Site.{Site}
use Rattle.xt_annotations.specs.Annotations.{annotation}
use Rattle.xt_annotations.specs.Parameters.{parameter, ext_word}
use Rattle.xt_annotations.specs.Notes.{in_parentheses, of_annotation, note_after, note_at}
use Rattle.xt_annotations.specs.Places.{same_setting, breaks, first_refused}

pub an_id : note_at (codes "@id(5) long x;") 0 ≡ Ok (note.Id 5, 6)
unfolding is_numeral magnitude token blank skip sees unsigned_in annotation parameter in_parentheses of_annotation note_after
an_id = refl

pub a_kind : note_at (codes "@extensibility( MUTABLE )") 0 ≡ Ok (note.Ext Ext.Mutable, 25)
unfolding token blank skip sees annotation ext_word parameter in_parentheses of_annotation note_after
a_kind = refl

pub no_end : note_at (codes "@id(5") 0 ≡ Err 6
unfolding is_numeral magnitude token blank skip sees unsigned_in annotation parameter in_parentheses of_annotation note_after
no_end = refl

pub no_parameter : note_at (codes "@id long x;") 0 ≡ Err 5
unfolding is_numeral magnitude token blank skip sees unsigned_in annotation parameter in_parentheses of_annotation note_after
no_parameter = refl

pub not_in_profile : note_at (codes "@external struct") 0 ≡ Err 2
unfolding token blank skip sees annotation note_after
not_in_profile = refl

pub too_large : note_at (codes "@id(0x0FFFFFFF)") 0 ≡ Err 7
unfolding is_numeral magnitude token blank skip sees unsigned_in annotation parameter in_parentheses of_annotation note_after
too_large = refl

pub twice : first_refused Site.Member [] (record { at = 0; note = note.Id 1 } ∷ record { at = 7; note = note.Id 2 } ∷ []) ≡ Some (record { at = 7; rule = 4 })
unfolding same_setting breaks
twice = refl

pub together : first_refused Site.Member [] (record { at = 0; note = note.Id 1 } ∷ record { at = 7; note = note.HashId [] } ∷ []) ≡ Some (record { at = 7; rule = 9 })
unfolding same_setting breaks
together = refl

pub wide_enumeration : first_refused Site.Enumeration [] (record { at = 0; note = note.BitBound 33 } ∷ []) ≡ Some (record { at = 0; rule = 7 })
unfolding same_setting breaks
wide_enumeration = refl
