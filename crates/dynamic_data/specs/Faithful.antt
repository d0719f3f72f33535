-- Types whose values can be told from their JSON: no two members of a structure and no two literals of an enumeration have one
-- name, and a bitmask has at most 64 bits (this profile's own).
use Rattle.std.specs.Prelude.{ℕ, List, [], ◌∷◌, Bool, true, not, ◌&&◌, nat_le}
use Rattle.type_trees.specs.Trees.{Tree, prim, str, enumeration, bitmask, sequence, array, map_of, structure, union, alias, Members, no_members, member, Cases, no_cases, one_case}
use Rattle.json_values.specs.Names.{is_among, literal_names, member_names}

abbrev pub are_apart : List (List ℕ) → Bool
are_apart [] = true
are_apart (n ∷ ns) = not (is_among n ns) && are_apart ns

abbrev mutual
  pub is_faithful : Tree → Bool
  is_faithful (prim p) = true
  is_faithful (str bound) = true
  is_faithful (enumeration name ext bits literals) = are_apart (literal_names literals)
  is_faithful (bitmask name bits flags) = nat_le bits 64
  is_faithful (sequence bound tc t) = is_faithful t
  is_faithful (array dims tc t) = is_faithful t
  is_faithful (map_of bound kc k vc v) = is_faithful k && is_faithful v
  is_faithful (structure head ms) = are_apart (member_names ms) && members_are_faithful ms
  is_faithful (union head disc cs) = is_faithful disc && cases_are_faithful cs
  is_faithful (alias name t) = is_faithful t

  pub members_are_faithful : Members → Bool
  members_are_faithful no_members = true
  members_are_faithful (member head t ms) = is_faithful t && members_are_faithful ms

  pub cases_are_faithful : Cases → Bool
  cases_are_faithful no_cases = true
  cases_are_faithful (one_case head t cs) = is_faithful t && cases_are_faithful cs
