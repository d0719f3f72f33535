-- The laws that the complete objects of a valid type with names are well formed, and that the type comes back from them (this profile's own).
use Rattle.std.specs.Prelude.{◌≡◌, [], true, Some, None, Ok}
use Rattle.type_trees.specs.declared.types.HashId.{HashId}
use Rattle.type_trees.specs.Trees.{Tree}
use Rattle.type_rules.specs.Valid.{type_fault}
use Rattle.type_rules.specs.faultless.Laws.{AreValid}
use Rattle.type_rules.specs.faultless.Parts.{parts}
use Rattle.object_formats.specs.Objects as o
use Rattle.object_formats.specs.Objects.{Object}
use Rattle.type_object.specs.Pools.{Texts, object_at}
use Rattle.object_walks.specs.Resolving.{of_object, walked, resolved}
use Rattle.object_walks.specs.Laws.{by_itself}
use Rattle.type_resolve.specs.Adding.{Adds}
use Rattle.type_resolve.specs.Objects.{identifier, texts}
use Rattle.type_resolve.specs.Held.{EachObject, IsWellFormed}
use Rattle.resolve_laws.specs.Named.{is_named, numbers_fit}

-- The complete objects of a valid type with names are well formed.
abbrev pub ObjectsAreWellFormed : Type 0
ObjectsAreWellFormed = (t : Tree) → type_fault t ≡ None → is_named t ≡ true → numbers_fit t ≡ true → EachObject IsWellFormed t

-- Where all texts of a valid type with names are added, the complete identifier resolves to the type.
abbrev pub ResolvesToItself : Type 0
ResolvesToItself =
    (old new : Texts) (t : Tree) (id : HashId) → type_fault t ≡ None → is_named t ≡ true → numbers_fit t ≡ true
    → identifier true t ≡ o.hash id → Adds old (texts t) new → resolved new id ≡ Ok t

-- An identifier that is walked to a valid type resolves to it.
abbrev pub ValidResolves : Type 0
ValidResolves = (pool : Texts) (id : HashId) (t : Tree) → walked pool id ≡ Ok t → type_fault t ≡ None → resolved pool id ≡ Ok t

-- Where an identifier resolves, its type is what its object gives with each identifier in it walked by itself, and each part of the type is
-- valid: so each such identifier resolves to its part.
abbrev pub PartsResolve : Type 0
PartsResolve =
    (pool : Texts) (id : HashId) (x : Object) (t : Tree) → resolved pool id ≡ Ok t → object_at id pool ≡ Some x
    → (of_object pool (by_itself pool) [] x 0 ≡ Ok (t, 0)) × AreValid (parts t)
