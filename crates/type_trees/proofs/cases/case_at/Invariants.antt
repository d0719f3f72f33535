use Rattle.std.proofs.Common.{◌≡◌, drop}
use Rattle.type_trees.specs.Bridge.{cases_shape}
use Rattle.xt_shapes.specs.Select.{case_at}
use Rattle.type_trees.proofs.cases.case_at.Given as goal

abbrev pub invariant-loop-case : goal.invariant-loop-case
invariant-loop-case l = case_at (cases_shape (drop l.case-index l.cases)) l.id ≡ case_at (cases_shape l.cases) l.id
