-- Objects and identifiers, without where they lie in memory (DDS-XTypes 1.3, 7.3.4).
use Rattle.std.specs.Prelude.{ℕ, ℤ, List, Option}
use Rattle.xt_shapes.specs.declared.leaves.Primitive.{Primitive}
use Rattle.type_trees.specs.declared.types.HashId.{HashId}
use Rattle.type_trees.specs.declared.types.Name.{Name}
use Rattle.object_formats.specs.declared.objects.ObjectLiteral.{ObjectLiteral}
use Rattle.object_formats.specs.declared.objects.ObjectFlag.{ObjectFlag}

pub data Identifier : Type 0 where
  none : Identifier
  prim : Primitive → Identifier
  str : ℕ → Identifier
  sequence : ℕ → ℕ → ℕ → Identifier → Identifier
  array : ℕ → ℕ → List ℕ → Identifier → Identifier
  map_of : ℕ → ℕ → ℕ → Identifier → ℕ → Identifier → Identifier
  hash : HashId → Identifier

pub record MemberPart : Type 0 where
  pub id : ℕ
  pub flags : ℕ
  pub ty : Identifier
  pub name : Name

pub record CasePart : Type 0 where
  pub id : ℕ
  pub flags : ℕ
  pub ty : Identifier
  pub labels : List ℤ
  pub name : Name

pub data Object : Type 0 where
  alias : Option (List ℕ) → Identifier → Object
  enumeration : Option (List ℕ) → ℕ → ℕ → List ObjectLiteral → Object
  bitmask : Option (List ℕ) → ℕ → List ObjectFlag → Object
  structure : Option (List ℕ) → ℕ → Identifier → List MemberPart → Object
  union : Option (List ℕ) → ℕ → ℕ → Identifier → List CasePart → Object
