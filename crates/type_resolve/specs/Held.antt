-- What a pool holds (this profile's own).
use Rattle.std.specs.Prelude.{◌≡◌, ℕ, List, [], ◌∷◌, Some, None, Ok, true, max}
use Rattle.xt_shapes.specs.declared.leaves.Ext.{Ext}
use Rattle.type_trees.specs.declared.types.HashId.{HashId}
use Rattle.type_trees.specs.declared.types.Base.{Base}
use Rattle.type_trees.specs.Trees.{Tree, prim, str, enumeration, bitmask, sequence, array, map_of, structure, union, alias, Members, no_members, member, Cases, no_cases, one_case}
use Rattle.object_formats.specs.Objects as o
use Rattle.object_formats.specs.Objects.{Identifier, MemberPart, Object}
use Rattle.object_formats.specs.Tables.{text_of, is_well_formed}
use Rattle.type_object.specs.Names.{named}
use Rattle.type_object.specs.Pools.{Texts, found, object_at}
use Rattle.type_object.specs.Pools.{IsObject}
use Rattle.type_rules.specs.Valid.{type_fault}
use Rattle.object_walks.specs.Resolving.{resolved}
use Rattle.type_resolve.specs.Adding.{Adds}
use Rattle.type_resolve.specs.Objects.{own, alias_object, enum_object, mask_object, union_object, layers, layer_object, member_count, identifier, member_parts, case_parts, texts}

-- a text of an object, which is found under its identifier
pub record IsHeld (pool : Texts) (bs : List ℕ) : Type 0 where
  pub there : found (named bs) pool ≡ Some bs
  pub read : IsObject bs

-- each of the texts is held
abbrev pub AreHeld : Texts → List (List ℕ) → Type 0
AreHeld pool [] = Unit {0}
AreHeld pool (t ∷ ts) = IsHeld pool t × AreHeld pool ts

-- what is found in one pool is found in the other
abbrev pub Keeps : Texts → Texts → Type 0
Keeps old new = (id : HashId) (bs : List ℕ) → found id old ≡ Some bs → found id new ≡ Some bs

-- Texts that were all added are held, and what was found before is found.
abbrev pub AddedAreHeld : Type 0
AddedAreHeld = (old new : Texts) (texts : List (List ℕ)) → Adds old texts new → Keeps old new × AreHeld new texts

-- ---- the complete objects of a type

-- of a structure's layers
abbrev pub EachLayer : (Object → Type 0) → Ext → Identifier → ℕ → List Base → List MemberPart → Type 0
EachLayer P ext base had [] parts = Unit {0}
EachLayer P ext base had (b ∷ bs) parts = P (layer_object true ext base had b parts) × EachLayer P ext (own (layer_object true ext base had b parts)) (max had b.count) bs parts

abbrev mutual
  -- something holds of each complete object that a type needs
  pub EachObject : (Object → Type 0) → Tree → Type 0
  EachObject P (prim p) = Unit {0}
  EachObject P (str bound) = Unit {0}
  EachObject P (enumeration name ext bits literals) = P (enum_object true name ext bits literals)
  EachObject P (bitmask name bits flags) = P (mask_object true name bits flags)
  EachObject P (sequence bound tc t) = EachObject P t
  EachObject P (array dims tc t) = EachObject P t
  EachObject P (map_of bound kc k vc v) = EachObject P k × EachObject P v
  EachObject P (structure h ms) = EachMember P ms × EachLayer P h.ext o.none 0 (layers h (member_count ms)) (member_parts true ms)
  EachObject P (union h disc cs) = EachObject P disc × EachCase P cs × P (union_object true h (identifier true disc) (case_parts true cs))
  EachObject P (alias name t) = EachObject P t × P (alias_object true name (identifier true t))

  pub EachMember : (Object → Type 0) → Members → Type 0
  EachMember P no_members = Unit {0}
  EachMember P (member h t ms) = EachObject P t × EachMember P ms

  pub EachCase : (Object → Type 0) → Cases → Type 0
  EachCase P no_cases = Unit {0}
  EachCase P (one_case h t cs) = EachObject P t × EachCase P cs

-- an object that a pool has under the identifier of its text
abbrev pub IsIn : Texts → Object → Type 0
IsIn pool x = object_at (named (text_of x)) pool ≡ Some x

abbrev pub IsWellFormed : Object → Type 0
IsWellFormed x = is_well_formed x ≡ true

-- Where all texts of a type are added and its complete objects are well formed, each complete object is there under its identifier.
abbrev pub ObjectsAreIn : Type 0
ObjectsAreIn = (old new : Texts) (t : Tree) → EachObject IsWellFormed t → Adds old (texts t) new → EachObject (IsIn new) t

-- Where all texts of a valid type are added and its complete objects are well formed, the complete identifier resolves to the type.
abbrev pub ResolvesAgain : Type 0
ResolvesAgain = (old new : Texts) (t : Tree) (id : HashId) → EachObject IsWellFormed t → type_fault t ≡ None → identifier true t ≡ o.hash id → Adds old (texts t) new → resolved new id ≡ Ok t
