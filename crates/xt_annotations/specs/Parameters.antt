-- What annotations mean with a parameter (DDS-XTypes 1.3, 7.3.1.2; that an id is below 0x0FFFFFFF is this profile's own).
use Rattle.std.specs.Prelude.{ℕ, ◌-◌, Bool, true, false, if◌then◌else◌, take, drop, length, Option, Some, None, Result, Ok, Err, codes}
use Rattle.std.specs.Option.{option_map, ok_or}
use Rattle.std.specs.Str.{bytes_eq}
use Rattle.xt_shapes.specs.declared.leaves.Ext.{Ext}
use Rattle.xt_shapes.specs.declared.leaves.Try.{Try}
use Rattle.idl_tokens.specs.declared.tokens.TokenKind.{TokenKind}
use Rattle.idl_tokens.specs.Classes.{Text}
use Rattle.idl_tokens.specs.Numerals.{unsigned_in, signed_32}
use Rattle.idl_tokens.specs.Tokens.{is_word, is_number, is_quoted}
use Rattle.xt_annotations.specs.declared.annotations.Annotation.{Annotation}
use Rattle.xt_annotations.specs.declared.annotations.ParameterKind.{ParameterKind}
use Rattle.xt_annotations.specs.declared.notes.Note.{Note}
use Rattle.xt_annotations.specs.declared.notes.Note.TheVariants as note
use Rattle.xt_annotations.specs.Annotations.{takes}

abbrev pub truth : Text → Option Bool
truth s = if bytes_eq s (codes "TRUE") then Some true else (if bytes_eq s (codes "FALSE") then Some false else None)

unfoldable pub ext_word : Text → Option Ext
ext_word s = if bytes_eq s (codes "FINAL") then Some Ext.Final else (if bytes_eq s (codes "APPENDABLE") then Some Ext.Appendable else (if bytes_eq s (codes "MUTABLE") then Some Ext.Mutable else None))

unfoldable pub autoid_word : Text → Option Bool
autoid_word s = if bytes_eq s (codes "SEQUENTIAL") then Some false else (if bytes_eq s (codes "HASH") then Some true else None)

unfoldable pub try_word : Text → Option Try
try_word s = if bytes_eq s (codes "DISCARD") then Some Try.Discard else (if bytes_eq s (codes "USE_DEFAULT") then Some Try.UseDefault else (if bytes_eq s (codes "TRIM") then Some Try.Trim else None))

-- what an annotation means with a word in parentheses
abbrev pub with_word : Annotation → Text → Option Note
with_word Annotation.Extensibility s = option_map (λ x. note.Ext x) (ext_word s)
with_word Annotation.Nested s = option_map (λ b. note.Nested b) (truth s)
with_word Annotation.Autoid s = option_map (λ b. note.Autoid b) (autoid_word s)
with_word Annotation.Key s = option_map (λ b. note.Key b) (truth s)
with_word Annotation.Optional s = option_map (λ b. note.Optional b) (truth s)
with_word Annotation.MustUnderstand s = option_map (λ b. note.MustUnderstand b) (truth s)
with_word Annotation.TryConstruct s = option_map (λ t. note.TryConstruct t) (try_word s)
with_word _ s = None

-- what an annotation means with a number in parentheses
abbrev pub with_number : Annotation → Text → Option Note
with_number Annotation.Id s = option_map (λ n. note.Id n) (unsigned_in 0 268435454 s)
with_number Annotation.BitBound s = option_map (λ n. note.BitBound n) (unsigned_in 1 64 s)
with_number Annotation.Value s = option_map (λ n. note.Number n) (signed_32 s)
with_number Annotation.Position s = option_map (λ n. note.Position n) (unsigned_in 0 63 s)
with_number _ s = None

-- the octets between the quotes
abbrev pub unquoted : Text → Text
unquoted s = take (length s - 2) (drop 1 s)

-- A parameter's meaning, or rule 6 for a token of another kind, or rule 7 for a number out of its range.
abbrev pub parameter_as : ParameterKind → Annotation → TokenKind → Text → Result Note ℕ
parameter_as ParameterKind.OneOf a kind s = if is_word kind then ok_or (with_word a s) 6 else Err 6
parameter_as ParameterKind.Numeral a kind s = if is_number kind then ok_or (with_number a s) 7 else Err 6
parameter_as ParameterKind.Quote a kind s = if is_quoted kind then Ok (note.HashId (unquoted s)) else Err 6
parameter_as ParameterKind.Nothing a kind s = Err 8

unfoldable pub parameter : Annotation → TokenKind → Text → Result Note ℕ
parameter a kind s = parameter_as (takes a) a kind s
