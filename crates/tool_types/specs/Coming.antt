-- The types that texts declare come back from the pool of a front's objects (this profile's own).
use Rattle.std.specs.Prelude.{◌≡◌, true, List, [], ◌∷◌, Ok}
use Rattle.xt_io.specs.declared.Item.{Item}
use Rattle.type_trees.specs.declared.types.HashId.{HashId}
use Rattle.object_formats.specs.Objects as o
use Rattle.object_walks.specs.Resolving.{resolved}
use Rattle.type_object.specs.Pools.{Texts}
use Rattle.type_resolve.specs.Objects.{identifier}
use Rattle.idl_types.specs.State as idl_types
use Rattle.tool_types.specs.Types.{Declared, types, object, declare}

-- the complete identifier of each type resolves to it
abbrev pub ComeBack : Texts → idl_types.Declared → Type 0
ComeBack pool [] = Unit {0}
ComeBack pool (t ∷ ts) = ((id : HashId) → identifier true t.1 ≡ o.hash id → resolved pool id ≡ Ok t.1) × ComeBack pool ts

-- of each type of a record
abbrev pub ComesBack : Texts → Declared → Type 0
ComesBack pool (types ts) = ComeBack pool ts
ComesBack pool (object id name) = Unit {0}

-- of each record
abbrev pub AllComeBack : Texts → List Declared → Type 0
AllComeBack pool [] = Unit {0}
AllComeBack pool (d ∷ ds) = ComesBack pool d × AllComeBack pool ds

-- Where a front is declared, each type of its texts comes back from the pool.
abbrev pub DeclaredComesBack : Type 0
DeclaredComesBack = (records : List Item) (front : List Declared × Texts) → declare 0 [] records ≡ Ok front → AllComeBack front.1 front.0
