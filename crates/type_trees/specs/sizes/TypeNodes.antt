-- How many nodes a type has: each type in it is one, an alias too (this profile's own).
use Rattle.std.specs.Prelude.{ℕ, ◌+◌}
use Rattle.type_trees.specs.Trees.{Tree, prim, str, enumeration, bitmask, sequence, array, map_of, structure, union, alias, Members, no_members, member, Cases, no_cases, one_case}

abbrev mutual
  pub nodes : Tree → ℕ
  nodes (prim p) = 1
  nodes (str bound) = 1
  nodes (enumeration name ext bits literals) = 1
  nodes (bitmask name bits flags) = 1
  nodes (sequence bound tc t) = 1 + nodes t
  nodes (array dims tc t) = 1 + nodes t
  nodes (map_of bound kc k vc v) = 1 + nodes k + nodes v
  nodes (structure head ms) = 1 + member_nodes ms
  nodes (union head disc cs) = 1 + nodes disc + case_nodes cs
  nodes (alias name t) = 1 + nodes t

  pub member_nodes : Members → ℕ
  member_nodes no_members = 0
  member_nodes (member head t ms) = nodes t + member_nodes ms

  pub case_nodes : Cases → ℕ
  case_nodes no_cases = 0
  case_nodes (one_case head t cs) = nodes t + case_nodes cs
