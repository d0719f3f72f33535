-- A worked list of references, by computation: each identifier once (DDS-XTypes 1.3, 7.3.4).
use Rattle.std.specs.Prelude.{◌≡◌, [], ◌∷◌, None}
use Rattle.std.proofs.Common.{refl}
use Rattle.type_trees.specs.declared.types.HashId.{HashId}
use Rattle.type_trees.specs.declared.types.Name.TheVariants.{Hashed}
use Rattle.object_formats.specs.Objects as o
use Rattle.object_formats.specs.Objects.{Object}
use Rattle.type_object.specs.References.{references}

abbrev ones : HashId
ones = record { kind = 241; hash = 17 ∷ 17 ∷ 17 ∷ 17 ∷ 17 ∷ 17 ∷ 17 ∷ 17 ∷ 17 ∷ 17 ∷ 17 ∷ 17 ∷ 17 ∷ 17 ∷ [] }

-- a structure with two members of one type
abbrev holder : Object
holder = o.structure None 1 o.none (record { id = 0; flags = 1; ty = o.hash ones; name = Hashed 7 } ∷ record { id = 1; flags = 1; ty = o.hash ones; name = Hashed 8 } ∷ [])

once_each : references holder ≡ ones ∷ []
unfolding references
once_each = refl
