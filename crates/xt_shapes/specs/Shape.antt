-- A type as decoding sees it: aliases resolved, type names and bases dropped, names as hash numbers (DDS-XTypes 1.3, 7.3.4:
-- the minimal type; that aliases are resolved and bases dropped is this profile's own). Two types are equivalent where these are equal.
use Rattle.std.specs.Prelude.{ℕ, ◌*◌, ℤ, List, [], ◌∷◌, Bool}
use Rattle.xt_shapes.specs.declared.leaves.Ext.{Ext}
use Rattle.xt_shapes.specs.declared.leaves.Try.{Try}
use Rattle.xt_shapes.specs.declared.leaves.Primitive.{Primitive}

-- a literal of an enumeration
pub record Literal : Type 0 where
  pub hash : ℕ
  pub value : ℤ
  pub is_default : Bool

-- a flag of a bitmask
pub record Flag : Type 0 where
  pub hash : ℕ
  pub position : ℕ

-- a member of a structure, without its type
pub record Head : Type 0 where
  pub id : ℕ
  pub hash : ℕ
  pub tc : Try
  pub optional : Bool
  pub must_understand : Bool
  pub key : Bool

-- a case of a union, without its type
pub record CaseHead : Type 0 where
  pub id : ℕ
  pub hash : ℕ
  pub tc : Try
  pub labels : List ℤ
  pub is_default : Bool

-- A string, sequence and map begin with their bound (0 is none), an enumeration and a bitmask have their bits, an array its
-- dimensions, and a union whether its discriminator is key.
mutual
  pub data Shape : Type 0 where
    prim : Primitive → Shape
    str : ℕ → Shape
    enumeration : Ext → ℕ → List Literal → Shape
    bitmask : ℕ → List Flag → Shape
    sequence : ℕ → Try → Shape → Shape
    array : List ℕ → Try → Shape → Shape
    map_of : ℕ → Try → Shape → Try → Shape → Shape
    structure : Ext → Members → Shape
    union : Ext → Bool → Shape → Cases → Shape

  pub data Members : Type 0 where
    no_members : Members
    member : Head → Shape → Members → Members

  pub data Cases : Type 0 where
    no_cases : Cases
    one_case : CaseHead → Shape → Cases → Cases

abbrev pub heads : Members → List Head
heads no_members = []
heads (member h t ms) = h ∷ heads ms

abbrev pub case_heads : Cases → List CaseHead
case_heads no_cases = []
case_heads (one_case h t cs) = h ∷ case_heads cs

-- how many elements an array of these dimensions has
abbrev pub product : List ℕ → ℕ
product [] = 1
product (d ∷ ds) = d * product ds
