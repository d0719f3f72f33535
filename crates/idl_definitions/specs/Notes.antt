-- What annotations say of a definition, a literal, a flag or a discriminator (DDS-XTypes 1.3, 7.3.1.2).
use Rattle.std.specs.Prelude.{false, true, min, List, [], ◌∷◌, Some, None}
use Rattle.xt_shapes.specs.declared.leaves.Ext.{Ext}
use Rattle.xt_annotations.specs.declared.notes.Placed.{Placed}
use Rattle.xt_annotations.specs.declared.notes.Note.{Note}
use Rattle.xt_annotations.specs.declared.notes.Note.TheVariants as note
use Rattle.idl_definitions.specs.declared.settings.Settings.{Settings}

abbrev pub without_notes : Settings
without_notes = record { ext = Ext.Appendable; nested = false; hashed = false; key = false; bits = 32; number = None; is_default = false; position = None }

abbrev pub with_setting : Note → Settings → Settings
with_setting (note.Ext x) s = record s { ext = x }
with_setting (note.Nested b) s = record s { nested = b }
with_setting (note.Autoid b) s = record s { hashed = b }
with_setting (note.Key b) s = record s { key = b }
with_setting (note.BitBound n) s = record s { bits = min n 255 }
with_setting (note.Number n) s = record s { number = Some n }
with_setting note.DefaultLiteral s = record s { is_default = true }
with_setting (note.Position n) s = record s { position = Some (min n 255) }
with_setting _ s = s

abbrev pub settings_from : List Placed → Settings → Settings
settings_from [] s = s
settings_from (p ∷ ps) s = settings_from ps (with_setting p.note s)

abbrev pub settings : List Placed → Settings
settings ps = settings_from ps without_notes
