-- What a guide knows of a type: its literals by their values, its cases by their labels, and the same of its parts (this profile's own).
use Rattle.std.specs.Prelude.{◌≡◌, ℕ, suc, ◌+◌, ◌<◌, ℤ, length, List, [], Option, Some, None, cond, ◌==◌, get_or}
use Rattle.std.specs.Option.{option_map, option_and_then}
use Rattle.std.specs.BTreeMap.{BTreeMap, get}
use Rattle.std.specs.BTreeSet.{BTreeSet, contains}
use Rattle.std.specs.Ordering.{int_cmp, nat_cmp}
use Rattle.xt_shapes.specs.Lists.{or_else}
use Rattle.xt_shapes.specs.Select.{is_literal, labelled, default_case, select}
use Rattle.xt_shapes.specs.Shape.{Literal, Shape, prim, str, enumeration, bitmask, sequence, array, map_of, structure, union, Members, no_members, member, Cases, no_cases, one_case}
use Rattle.type_trees.specs.declared.types.Case.{Case}
use Rattle.type_trees.specs.Bridge.{type_shape}
use Rattle.try_construct.specs.declared.guides.CaseIndex.{CaseIndex}
use Rattle.try_construct.specs.declared.guides.Known.{Known}
use Rattle.try_construct.specs.declared.guides.Known.TheVariants as known
use Rattle.try_construct.specs.declared.guides.Guide.{Guide, out-Guide}

-- the position of the first case with that id
abbrev pub case_index : Cases → ℕ → Option ℕ
case_index no_cases id = None
case_index (one_case h t cs) id = cond (h.id == id) (Some 0) (option_map (λ i. suc i) (case_index cs id))

-- a set holds the values that literals have
abbrev pub HasValues : List Literal → BTreeSet ℤ → Type 0
HasValues ls values = (n : ℤ) → contains int_cmp values n ≡ is_literal ls n

-- the positions of cases by their ids
abbrev pub IsPlaces : Cases → BTreeMap ℕ ℕ → Type 0
IsPlaces cs places = (id : ℕ) → get nat_cmp places id ≡ case_index cs id

-- the position of the case that a number selects
abbrev pub selected_index : Cases → ℤ → Option ℕ
selected_index cs n = option_and_then (case_index cs) (select cs n)

-- an index has the positions of a union's cases: by their labels, and the default case's
pub record Indexes (cs : Cases) (index : CaseIndex) : Type 0 where
  pub labels : (n : ℤ) → get int_cmp index.labels n ≡ option_and_then (case_index cs) (labelled cs n)
  pub default : index.default ≡ option_and_then (case_index cs) (default_case cs)

-- the position of the case that a number selects, as an index has it
abbrev pub found_at : CaseIndex → ℤ → Option ℕ
found_at index n = or_else (get int_cmp index.labels n) index.default

abbrev pub knows_literals : List Literal → Known → Type 0
knows_literals ls (known.Literals values) = HasValues ls values
knows_literals ls _ = Unit {0}

abbrev pub knows_cases : Cases → Known → Type 0
knows_cases cs (known.Cases index) = Indexes cs index
knows_cases cs _ = Unit {0}

-- the literals that a guide knows are these, where it knows any
abbrev pub TellsLiterals : List Literal → Guide → Type 0
TellsLiterals ls g = let x = out-Guide g in knows_literals ls x.known

-- the cases that a guide knows are these, where it knows any
abbrev pub TellsCases : Cases → Guide → Type 0
TellsCases cs g = let x = out-Guide g in knows_cases cs x.known

-- the guide of the part at a position; where none is held, the guide itself
abbrev pub part_at : Guide → ℕ → Guide
part_at g i = let x = out-Guide g in get_or x.parts i g

-- a guide that knows nothing
pub record IsNothing (g : Guide) : Type 0 where
  pub known : let x = out-Guide g in x.known ≡ known.Nothing
  pub parts : let x = out-Guide g in x.parts ≡ []

-- What a guide knows is so of the type. A collection's element is its part 0, as a map's key is, whose value is 1; a structure's members are its
-- parts by their positions; a union's discriminator is its part 0, and its cases are those from 1 on.
abbrev mutual
  pub IsGuide : Shape → Guide → Type 0
  IsGuide (prim p) g = Unit {0}
  IsGuide (str bound) g = Unit {0}
  IsGuide (enumeration ext bits ls) g = TellsLiterals ls g
  IsGuide (bitmask bits flags) g = Unit {0}
  IsGuide (sequence bound tc t) g = IsGuide t (part_at g 0)
  IsGuide (array dims tc t) g = IsGuide t (part_at g 0)
  IsGuide (map_of bound kc k vc v) g = IsGuide k (part_at g 0) × IsGuide v (part_at g 1)
  IsGuide (structure ext ms) g = AreGuides ms g 0
  IsGuide (union ext disc_key disc cs) g = TellsCases cs g × (IsGuide disc (part_at g 0) × AreCaseGuides cs g 1)

  pub AreGuides : Members → Guide → ℕ → Type 0
  AreGuides no_members g i = Unit {0}
  AreGuides (member h t ms) g i = IsGuide t (part_at g i) × AreGuides ms g (suc i)

  pub AreCaseGuides : Cases → Guide → ℕ → Type 0
  AreCaseGuides no_cases g i = Unit {0}
  AreCaseGuides (one_case h t cs) g i = IsGuide t (part_at g i) × AreCaseGuides cs g (suc i)

-- behind some guides, the guides of the first n of these
pub record HasGuides {X : Type 0} (shape_of : X → Shape) (xs : List X) (n behind : ℕ) (gs : List Guide) : Type 0 where
  pub count : length gs ≡ behind + n
  pub each : (i : ℕ) (d : X) (e : Guide) → i < n → IsGuide (shape_of (get_or xs i d)) (get_or gs (behind + i) e)

-- the guides of a union's discriminator and of its cases
pub record HasUnionGuides (t : Shape) (cs : List Case) (gs : List Guide) : Type 0 where
  pub disc : (e : Guide) → IsGuide t (get_or gs 0 e)
  pub cases : HasGuides (λ c. type_shape c.ty) cs (length cs) 1 gs
