-- How many parts a type's values have at least: what a reader may have to build that no octet pays for (this profile's own).
use Rattle.std.specs.Prelude.{ℕ, ◌+◌, ◌*◌, max}
use Rattle.xt_shapes.specs.Shape.{Shape, prim, str, enumeration, bitmask, sequence, array, map_of, structure, union, Members, no_members, member, Cases, no_cases, one_case, product}

abbrev mutual
  pub weight : Shape → ℕ
  weight (prim p) = 1
  weight (str bound) = 1
  weight (enumeration ext bits literals) = 1
  weight (bitmask bits flags) = 1
  weight (sequence bound tc t) = 1
  weight (array dims tc t) = 1 + product dims * weight t
  weight (map_of bound kc k vc v) = 1
  weight (structure ext ms) = 1 + weights ms
  weight (union ext key disc cs) = 2 + greatest cs

  pub weights : Members → ℕ
  weights no_members = 0
  weights (member h t ms) = weight t + weights ms

  pub greatest : Cases → ℕ
  greatest no_cases = 0
  greatest (one_case h t cs) = max (weight t) (greatest cs)
