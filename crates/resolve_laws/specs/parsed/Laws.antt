-- The laws that the types that a text declares have their names in full, and come back from their objects (this profile's own).
use Rattle.std.specs.Prelude.{◌≡◌, ℕ, true, slice_get, Some, Ok}
use Rattle.type_trees.specs.declared.types.HashId.{HashId}
use Rattle.type_trees.specs.Trees.{Tree}
use Rattle.idl_tokens.specs.Classes.{Text}
use Rattle.idl_types.specs.State.{Declared}
use Rattle.xt_idl.specs.Whole.{idl}
use Rattle.object_formats.specs.Objects as o
use Rattle.type_object.specs.Pools.{Texts}
use Rattle.object_walks.specs.Resolving.{resolved}
use Rattle.type_resolve.specs.Adding.{Adds}
use Rattle.type_resolve.specs.Objects.{identifier, texts}
use Rattle.resolve_laws.specs.Named.{is_named, numbers_fit}

-- Each type that a text declares has all its names in full, and its numbers are those of the program's types.
abbrev pub ParsedIsNamed : Type 0
ParsedIsNamed = (text : Text) (ds : Declared) (at : ℕ) (full : Text) (t : Tree) → idl text ≡ Ok ds → slice_get ds at ≡ Some (full, t) → (is_named t ≡ true) × (numbers_fit t ≡ true)

-- Where all objects of a type that a text declares are added, its complete identifier resolves to the type.
abbrev pub ParsedResolves : Type 0
ParsedResolves =
    (text : Text) (ds : Declared) (at : ℕ) (full : Text) (t : Tree) → idl text ≡ Ok ds → slice_get ds at ≡ Some (full, t)
    → (old new : Texts) (id : HashId) → identifier true t ≡ o.hash id → Adds old (texts t) new → resolved new id ≡ Ok t
