-- A type with booleans in place of its cases' types, or of an alias's, which the rules at its own node don't look at (this profile's own).
use Rattle.std.specs.Prelude.{Bool, true}
use Rattle.xt_shapes.specs.declared.leaves.Primitive.TheVariants.{Boolean}
use Rattle.xt_shapes.specs.Keyable.{counted_keyable}
use Rattle.type_trees.specs.Trees.{CaseHead, Tree, prim, str, enumeration, bitmask, sequence, array, map_of, structure, union, alias, Cases, no_cases, one_case}
use Rattle.type_trees.specs.Bridge.{member_shapes}
use Rattle.idl_types.specs.declared.declarations.UsedCase.{UsedCase}
use Rattle.idl_types.specs.Definitions.{case_head}
use Rattle.xt_idl.specs.Measures.{members_in}

abbrev pub bare_case : CaseHead × Tree → CaseHead × Tree
bare_case c = (c.0, prim Boolean)

abbrev pub light_cases : Cases → Cases
light_cases no_cases = no_cases
light_cases (one_case head t cs) = one_case head (prim Boolean) (light_cases cs)

abbrev pub light : Tree → Tree
light (structure head ms) = structure head ms
light (union head disc cs) = union head disc (light_cases cs)
light (alias name t) = alias name (prim Boolean)
light (prim p) = prim p
light (str n) = str n
light (enumeration name ext bits ls) = enumeration name ext bits ls
light (bitmask name bits fs) = bitmask name bits fs
light (sequence n tc t) = sequence n tc t
light (array ds tc t) = array ds tc t
light (map_of n kc k vc v) = map_of n kc k vc v

-- V12: the keys of a structure may have their types (DDS-XTypes 1.3, 7.2.2.4.4)
abbrev pub keys_keyable : Tree → Bool
keys_keyable t = counted_keyable true (member_shapes (members_in t))

-- ---- of the code's cases

abbrev pub bare_used : UsedCase → CaseHead × Tree
bare_used c = (case_head c, prim Boolean)
