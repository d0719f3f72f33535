-- Types as finite trees, with all names, aliases, flags and bases (DDS-XTypes 1.3, 7.2.2).
use Rattle.std.specs.Prelude.{ℕ, ℤ, List, Option, Bool}
use Rattle.xt_shapes.specs.declared.leaves.Ext.{Ext}
use Rattle.xt_shapes.specs.declared.leaves.Try.{Try}
use Rattle.xt_shapes.specs.declared.leaves.Primitive.{Primitive}
use Rattle.type_trees.specs.declared.types.Name.{Name}
use Rattle.type_trees.specs.declared.types.Literal.{Literal}
use Rattle.type_trees.specs.declared.types.Flag.{Flag}
use Rattle.type_trees.specs.declared.types.Base.{Base}

-- a member of a structure, without its type
pub record MemberHead : Type 0 where
  pub id : ℕ
  pub name : Name
  pub tc : Try
  pub optional : Bool
  pub must_understand : Bool
  pub key : Bool

-- a case of a union, without its type
pub record CaseHead : Type 0 where
  pub id : ℕ
  pub name : Name
  pub tc : Try
  pub labels : List ℤ
  pub is_default : Bool

-- a structure, without its members; the outermost base stands first
pub record StructHead : Type 0 where
  pub name : Option (List ℕ)
  pub ext : Ext
  pub nested : Bool
  pub hashed_ids : Bool
  pub bases : List Base

-- a union, without its discriminator and cases
pub record UnionHead : Type 0 where
  pub name : Option (List ℕ)
  pub ext : Ext
  pub nested : Bool
  pub hashed_ids : Bool
  pub disc_key : Bool

mutual
  pub data Tree : Type 0 where
    prim : Primitive → Tree
    str : ℕ → Tree
    enumeration : Option (List ℕ) → Ext → ℕ → List Literal → Tree
    bitmask : Option (List ℕ) → ℕ → List Flag → Tree
    sequence : ℕ → Try → Tree → Tree
    array : List ℕ → Try → Tree → Tree
    map_of : ℕ → Try → Tree → Try → Tree → Tree
    structure : StructHead → Members → Tree
    union : UnionHead → Tree → Cases → Tree
    alias : Option (List ℕ) → Tree → Tree

  pub data Members : Type 0 where
    no_members : Members
    member : MemberHead → Tree → Members → Members

  pub data Cases : Type 0 where
    no_cases : Cases
    one_case : CaseHead → Tree → Cases → Cases
