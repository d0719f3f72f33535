-- What holds of every list of gives, in whatever order and however often they come (own).
use Rattle.std.specs.Prelude.{◌≡◌, ℕ, List, Some}
use Rattle.type_trees.specs.declared.types.HashId.{HashId}
use Rattle.type_mirror.specs.declared.pairs.pair.Pair.{Pair}
use Rattle.type_mirror.specs.declared.pairs.pair.Give.{Give}
use Rattle.type_mirror.specs.declared.pairs.pair.Side.{Side}
use Rattle.type_mirror.specs.pairs.Pairs.{object_at, objects_of, ends, Clashes, Differs, Agrees, AllGiven, union_at}

-- No side loses or changes an object.
abbrev pub KeepsObjects : Type 0
KeepsObjects = (pair : Pair) (gives : List Give) (side : Side) (id : HashId) (octets : List ℕ) → object_at id (objects_of side pair) ≡ Some octets → object_at id (objects_of side (ends pair gives)) ≡ Some octets

-- A clash comes only for an identifier that both sides started with in different octets.
abbrev pub ClashesDiffer : Type 0
ClashesDiffer = (pair : Pair) (gives : List Give) (id : HashId) → Clashes pair gives id → Differs pair id

-- Where there is no such identifier and each side gave each object that it started with, both sides end as the union.
abbrev pub EndsAsUnion : Type 0
EndsAsUnion = (pair : Pair) (gives : List Give) → Agrees pair → AllGiven pair gives → (side : Side) (id : HashId) → object_at id (objects_of side (ends pair gives)) ≡ union_at pair id
