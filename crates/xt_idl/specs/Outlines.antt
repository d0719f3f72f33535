-- A type as its printed text shows it: types that have names stand by these where they are used, and a structure has its own members alone,
-- behind the name of its base (this profile's own).
use Rattle.std.specs.Prelude.{false, List, [], ◌∷◌, map, Option, Some, None}
use Rattle.xt_shapes.specs.declared.leaves.Primitive.TheVariants.{Boolean}
use Rattle.type_trees.specs.declared.types.Base.{Base}
use Rattle.type_trees.specs.Trees.{Tree, prim, str, enumeration, bitmask, sequence, array, map_of, structure, union, alias, Members, no_members, member, Cases, no_cases, one_case}
use Rattle.idl_types.specs.State.{Declared}
use Rattle.idl_printer.specs.Parts.{members_behind}
use Rattle.idl_printer.specs.Lines.{last_base, count_of}

-- a type where it is used
abbrev pub use_outline : Tree → Tree
use_outline (prim p) = prim p
use_outline (str n) = str n
use_outline (sequence n tc t) = sequence n tc (use_outline t)
use_outline (array ds tc t) = array ds tc (use_outline t)
use_outline (map_of n kc k vc v) = map_of n kc (use_outline k) vc (use_outline v)
use_outline (enumeration name ext bits ls) = alias name (prim Boolean)
use_outline (bitmask name bits fs) = alias name (prim Boolean)
use_outline (structure head ms) = alias head.name (prim Boolean)
use_outline (union head disc cs) = alias head.name (prim Boolean)
use_outline (alias name t) = alias name (prim Boolean)

abbrev pub members_outline : Members → Members
members_outline no_members = no_members
members_outline (member head t ms) = member head (use_outline t) (members_outline ms)

abbrev pub cases_outline : Cases → Cases
cases_outline no_cases = no_cases
cases_outline (one_case head t cs) = one_case head (use_outline t) (cases_outline cs)

-- the name of the innermost base, in front of no members
abbrev pub base_outline : Option Base → List Base
base_outline None = []
base_outline (Some b) = (record { name = b.name; nested = false; hashed_ids = false; count = 0 }) ∷ []

abbrev pub outline : Tree → Tree
outline (structure head ms) =
    structure
    (record { name = head.name; ext = head.ext; nested = head.nested; hashed_ids = head.hashed_ids; bases = base_outline (last_base head.bases) })
    (members_outline (members_behind (count_of (last_base head.bases)) ms))
outline (union head disc cs) = union head disc (cases_outline cs)
outline (alias name t) = alias name (use_outline t)
outline (prim p) = prim p
outline (str n) = str n
outline (enumeration name ext bits ls) = enumeration name ext bits ls
outline (bitmask name bits fs) = bitmask name bits fs
outline (sequence n tc t) = sequence n tc t
outline (array ds tc t) = array ds tc t
outline (map_of n kc k vc v) = map_of n kc k vc v

abbrev pub outlines : Declared → Declared
outlines = map (λ d. (d.0, outline d.1))
