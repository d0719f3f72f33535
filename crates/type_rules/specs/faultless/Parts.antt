-- The types right below a type's own node (this profile's own).
use Rattle.std.specs.Prelude.{List, [], ◌∷◌}
use Rattle.type_trees.specs.Trees.{Tree, prim, str, enumeration, bitmask, sequence, array, map_of, structure, union, alias, Members, no_members, member, Cases, no_cases, one_case}

abbrev pub member_parts : Members → List Tree
member_parts no_members = []
member_parts (member head t ms) = t ∷ member_parts ms

abbrev pub case_parts : Cases → List Tree
case_parts no_cases = []
case_parts (one_case head t cs) = t ∷ case_parts cs

-- in declared order; a structure's are those of its members and of its bases' members, a union's begin with its discriminator
abbrev pub parts : Tree → List Tree
parts (prim p) = []
parts (str bound) = []
parts (enumeration name ext bits literals) = []
parts (bitmask name bits flags) = []
parts (sequence bound tc t) = t ∷ []
parts (array dims tc t) = t ∷ []
parts (map_of bound kc k vc v) = k ∷ v ∷ []
parts (structure head ms) = member_parts ms
parts (union head disc cs) = disc ∷ case_parts cs
parts (alias name t) = t ∷ []
