-- Types whose objects were all added to a pool, so that they need not be made again (this profile's own).
use Rattle.std.specs.Prelude.{◌≡◌, All, List, ℕ, Option, None}
use Rattle.type_trees.specs.View.{tree}
use Rattle.type_trees.specs.Trees.{Tree, enumeration, bitmask, structure, union, alias}
use Rattle.type_object.specs.Pools.{Texts}
use Rattle.type_resolve.specs.declared.making.Known.{Known}
use Rattle.type_resolve.specs.Objects.{texts}
use Rattle.type_resolve.specs.Held.{AreHeld}
use Rattle.type_resolve.specs.Views.{sides, hashes_seen}

-- all texts of the type are held, and it has these identifiers
pub record IsKnown (pool : Texts) (k : Known) : Type 0 where
  pub held : AreHeld pool (texts (tree k.ty.now))
  pub named : sides (tree k.ty.now) ≡ hashes_seen k.ids

abbrev pub AreKnown : Texts → List Known → Type 0
AreKnown pool ks = All (IsKnown pool) ks

-- the name by which a type is known
abbrev pub known_name : Tree → Option (List ℕ)
known_name (enumeration name ext bits literals) = name
known_name (bitmask name bits flags) = name
known_name (structure h ms) = h.name
known_name (union h disc cs) = h.name
known_name (alias name t) = name
known_name _ = None
