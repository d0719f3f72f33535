-- The types that have a float in them (this profile's own).
use Rattle.std.specs.Prelude.{Bool, false, ◌||◌}
use Rattle.xt_shapes.specs.NodeRules.{is_float}
use Rattle.type_trees.specs.Trees.{Tree, prim, str, enumeration, bitmask, sequence, array, map_of, structure, union, alias, Members, no_members, member, Cases, no_cases, one_case}

-- Whether a float stands anywhere in the type, aliases followed. A union's discriminator is never one, so only its cases are looked at.
abbrev mutual
  pub has_floats : Tree → Bool
  has_floats (prim p) = is_float p
  has_floats (str bound) = false
  has_floats (enumeration name ext width literals) = false
  has_floats (bitmask name width flags) = false
  has_floats (sequence bound tc t) = has_floats t
  has_floats (array dims tc t) = has_floats t
  has_floats (map_of bound kc key vc value) = has_floats key || has_floats value
  has_floats (structure head ms) = members_have_floats ms
  has_floats (union head disc cs) = cases_have_floats cs
  has_floats (alias name t) = has_floats t

  pub members_have_floats : Members → Bool
  members_have_floats no_members = false
  members_have_floats (member head t ms) = has_floats t || members_have_floats ms

  pub cases_have_floats : Cases → Bool
  cases_have_floats no_cases = false
  cases_have_floats (one_case head t cs) = has_floats t || cases_have_floats cs
