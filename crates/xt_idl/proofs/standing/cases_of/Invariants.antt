use Rattle.std.proofs.Common.{◌≡◌, map, take}
use Rattle.type_trees.specs.View.{case_tree}
use Rattle.idl_types.specs.Definitions.{case_head}
use Rattle.xt_idl.proofs.standing.cases_of.Given as goal

abbrev pub invariant-loop-case : goal.invariant-loop-case
invariant-loop-case g l = map case_tree l.row ≡ map (λ c. (case_head c, g.S.Stands.stood l.stands c.used)) (take l.case-index l.cases)
