-- Annotations as they are printed.
use Rattle.std.proofs.Common.{◌≡◌, ℕ, Bool, true, false, ◌&&◌, List, [], ◌∷◌, ◌++◌, map, Ok}
use Rattle.std.specs.Prelude.{codes, decimal, nat_le}
use Rattle.std.specs.Fmt.{signed_decimal}
use Rattle.xt_shapes.specs.declared.leaves.Try.{Try}
use Rattle.xt_shapes.specs.Typing.{in_range}
use Rattle.xt_annotations.specs.declared.notes.Note.{Note}
use Rattle.xt_annotations.specs.declared.notes.Note.TheVariants as note
use Rattle.xt_annotations.specs.declared.notes.Placed.{Placed}
use Rattle.xt_annotations.specs.declared.places.Site.{Site}
use Rattle.idl_tokens.specs.Classes.{Text}
use Rattle.idl_input.specs.Input.{notes_at}
use Rattle.idl_laws.proofs.Steps.{at}
use Rattle.idl_printer.specs.Words.{ext_text, try_text, id_text}

-- a note as it is printed, with the blank behind it. The others are not printed.
abbrev pub note_text : Note → Text
note_text (note.Ext x) = ext_text x
note_text (note.Nested b) = codes "@nested "
note_text (note.Autoid b) = codes "@autoid(HASH) "
note_text (note.Id n) = id_text n
note_text (note.HashId s) = []
note_text (note.Key b) = codes "@key "
note_text (note.Optional b) = codes "@optional "
note_text (note.MustUnderstand b) = codes "@must_understand "
note_text (note.TryConstruct t) = try_text t
note_text (note.BitBound n) = codes "@bit_bound(" ++ decimal n ++ codes ") "
note_text (note.Number n) = codes "@value(" ++ signed_decimal n ++ codes ") "
note_text note.DefaultLiteral = codes "@default_literal "
note_text (note.Position n) = codes "@position(" ++ decimal n ++ codes ") "
note_text note.Topic = []

-- a note that is printed, with its number in range
abbrev pub is_told : Note → Bool
is_told (note.Ext x) = true
is_told (note.Nested b) = b
is_told (note.Autoid b) = b
is_told (note.Id n) = nat_le n 268435454
is_told (note.HashId s) = false
is_told (note.Key b) = b
is_told (note.Optional b) = b
is_told (note.MustUnderstand b) = b
is_told (note.TryConstruct Try.Discard) = false
is_told (note.TryConstruct Try.UseDefault) = true
is_told (note.TryConstruct Try.Trim) = true
is_told (note.BitBound n) = nat_le 1 n && nat_le n 64
is_told (note.Number n) = in_range 4 true n
is_told note.DefaultLiteral = true
is_told (note.Position n) = nat_le n 63
is_told note.Topic = false

abbrev pub notes_text : List Note → Text
notes_text [] = []
notes_text (n ∷ ns) = note_text n ++ notes_text ns

abbrev pub notes_of : List Placed → List Note
notes_of = map (λ p. p.note)

-- The notes are read at the site, and this text is left.
pub record ReadsNotes (site : Site) (text : Text) (notes : List Note) (rest : Text) (size : ℕ) : Type 0 where
  pub placed : List Placed
  pub reads : notes_at site (at text size) ≡ Ok (placed, at rest size)
  pub are : notes_of placed ≡ notes
