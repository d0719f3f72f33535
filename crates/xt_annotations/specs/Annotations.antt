-- The annotations that are known, and what each means without a parameter (DDS-XTypes 1.3, 7.3.1.2).
use Rattle.std.specs.Prelude.{Bool, true, false, List, [], ◌∷◌, Option, Some, None, codes}
use Rattle.xt_shapes.specs.declared.leaves.Ext.{Ext}
use Rattle.xt_shapes.specs.declared.leaves.Try.{Try}
use Rattle.idl_tokens.specs.Classes.{Text}
use Rattle.idl_tokens.specs.Tables.{beside}
use Rattle.xt_annotations.specs.declared.annotations.Annotation.{Annotation}
use Rattle.xt_annotations.specs.declared.annotations.ParameterKind.{ParameterKind}
use Rattle.xt_annotations.specs.declared.notes.Note.{Note}
use Rattle.xt_annotations.specs.declared.notes.Note.TheVariants as note

-- each annotation by its name; the last are not in the profile (DDS-XTypes 1.3, 7.3.1.2; OMG IDL 4.2, 8.3)
abbrev pub annotations : List (Text × Annotation)
annotations =
    (codes "final", Annotation.Final) ∷
    (codes "appendable", Annotation.Appendable) ∷
    (codes "mutable", Annotation.Mutable) ∷
    (codes "extensibility", Annotation.Extensibility) ∷
    (codes "nested", Annotation.Nested) ∷
    (codes "topic", Annotation.Topic) ∷
    (codes "autoid", Annotation.Autoid) ∷
    (codes "id", Annotation.Id) ∷
    (codes "hashid", Annotation.HashId) ∷
    (codes "key", Annotation.Key) ∷
    (codes "optional", Annotation.Optional) ∷
    (codes "must_understand", Annotation.MustUnderstand) ∷
    (codes "try_construct", Annotation.TryConstruct) ∷
    (codes "bit_bound", Annotation.BitBound) ∷
    (codes "value", Annotation.Value) ∷
    (codes "default_literal", Annotation.DefaultLiteral) ∷
    (codes "position", Annotation.Position) ∷
    (codes "external", Annotation.Outside) ∷
    (codes "default", Annotation.Outside) ∷
    (codes "verbatim", Annotation.Outside) ∷
    (codes "unit", Annotation.Outside) ∷
    (codes "range", Annotation.Outside) ∷
    (codes "min", Annotation.Outside) ∷
    (codes "max", Annotation.Outside) ∷
    (codes "service", Annotation.Outside) ∷
    (codes "oneway", Annotation.Outside) ∷
    (codes "ami", Annotation.Outside) ∷
    (codes "data_representation", Annotation.Outside) ∷
    (codes "ignore_literal_names", Annotation.Outside) ∷
    (codes "non_serialized", Annotation.Outside) ∷
    []

unfoldable pub annotation : Text → Option Annotation
annotation = beside annotations

-- the kind of an annotation's parameter
abbrev pub takes : Annotation → ParameterKind
takes Annotation.Extensibility = ParameterKind.OneOf
takes Annotation.Nested = ParameterKind.OneOf
takes Annotation.Autoid = ParameterKind.OneOf
takes Annotation.Id = ParameterKind.Numeral
takes Annotation.HashId = ParameterKind.Quote
takes Annotation.Key = ParameterKind.OneOf
takes Annotation.Optional = ParameterKind.OneOf
takes Annotation.MustUnderstand = ParameterKind.OneOf
takes Annotation.TryConstruct = ParameterKind.OneOf
takes Annotation.BitBound = ParameterKind.Numeral
takes Annotation.Value = ParameterKind.Numeral
takes Annotation.Position = ParameterKind.Numeral
takes Annotation.Final = ParameterKind.Nothing
takes Annotation.Appendable = ParameterKind.Nothing
takes Annotation.Mutable = ParameterKind.Nothing
takes Annotation.Topic = ParameterKind.Nothing
takes Annotation.DefaultLiteral = ParameterKind.Nothing
takes Annotation.Outside = ParameterKind.Nothing

-- what an annotation means without a parameter
abbrev pub alone : Annotation → Option Note
alone Annotation.Final = Some (note.Ext Ext.Final)
alone Annotation.Appendable = Some (note.Ext Ext.Appendable)
alone Annotation.Mutable = Some (note.Ext Ext.Mutable)
alone Annotation.Nested = Some (note.Nested true)
alone Annotation.Topic = Some note.Topic
alone Annotation.Autoid = Some (note.Autoid true)
alone Annotation.HashId = Some (note.HashId [])
alone Annotation.Key = Some (note.Key true)
alone Annotation.Optional = Some (note.Optional true)
alone Annotation.MustUnderstand = Some (note.MustUnderstand true)
alone Annotation.TryConstruct = Some (note.TryConstruct Try.UseDefault)
alone Annotation.DefaultLiteral = Some note.DefaultLiteral
alone Annotation.Extensibility = None
alone Annotation.Id = None
alone Annotation.BitBound = None
alone Annotation.Value = None
alone Annotation.Position = None
alone Annotation.Outside = None

abbrev pub is_outside : Annotation → Bool
is_outside Annotation.Outside = true
is_outside _ = false
