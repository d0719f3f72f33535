-- The nodes of a type, and how deep they lie (this profile's own).
use Rattle.std.specs.Prelude.{ℕ, suc, ◌+◌, max, List, [], ◌∷◌, ◌++◌}
use Rattle.xt_shapes.specs.declared.leaves.Step.{Step}
use Rattle.type_trees.specs.Trees.{Tree, prim, str, enumeration, bitmask, sequence, array, map_of, structure, union, alias, Members, no_members, member, Cases, no_cases, one_case}

-- A node of a type: the steps that lead to it, the number of nodes above it, and the type that stands there.
pub record Place : Type 0 where
  pub path : List Step
  pub above : ℕ
  pub node : Tree

abbrev pub beneath : List Step → Place → Place
beneath steps p = record { path = steps ++ p.path; above = suc p.above; node = p.node }

abbrev pub beneath_all : List Step → List Place → List Place
beneath_all steps [] = []
beneath_all steps (p ∷ ps) = beneath steps p ∷ beneath_all steps ps

abbrev pub top : Tree → Place
top t = record { path = []; above = 0; node = t }

abbrev mutual
  -- the nodes below a type's own
  pub inside : Tree → List Place
  inside (prim p) = []
  inside (str bound) = []
  inside (enumeration name ext bits literals) = []
  inside (bitmask name bits flags) = []
  inside (sequence bound tc t) = beneath_all (Step.Element ∷ []) (top t ∷ inside t)
  inside (array dims tc t) = beneath_all (Step.Element ∷ []) (top t ∷ inside t)
  inside (map_of bound kc k vc v) = beneath_all (Step.Key ∷ []) (top k ∷ inside k) ++ beneath_all (Step.Entry ∷ []) (top v ∷ inside v)
  inside (structure head ms) = member_places ms
  inside (union head disc cs) = beneath_all (Step.Disc ∷ []) (top disc ∷ inside disc) ++ case_places cs
  inside (alias name t) = beneath_all [] (top t ∷ inside t)

  pub member_places : Members → List Place
  member_places no_members = []
  member_places (member head t ms) = beneath_all (Step.Member head.id ∷ []) (top t ∷ inside t) ++ member_places ms

  pub case_places : Cases → List Place
  case_places no_cases = []
  case_places (one_case head t cs) = beneath_all (Step.Member head.id ∷ []) (top t ∷ inside t) ++ case_places cs

-- All nodes in declared order, a node before the types in it. An alias adds no step.
abbrev pub places : Tree → List Place
places t = top t ∷ inside t

abbrev mutual
  pub depth : Tree → ℕ
  depth (prim p) = 1
  depth (str bound) = 1
  depth (enumeration name ext bits literals) = 1
  depth (bitmask name bits flags) = 1
  depth (sequence bound tc t) = 1 + depth t
  depth (array dims tc t) = 1 + depth t
  depth (map_of bound kc k vc v) = 1 + max (depth k) (depth v)
  depth (structure head ms) = 1 + members_depth ms
  depth (union head disc cs) = 1 + max (depth disc) (cases_depth cs)
  depth (alias name t) = 1 + depth t

  pub members_depth : Members → ℕ
  members_depth no_members = 0
  members_depth (member head t ms) = max (depth t) (members_depth ms)

  pub cases_depth : Cases → ℕ
  cases_depth no_cases = 0
  cases_depth (one_case head t cs) = max (depth t) (cases_depth cs)
