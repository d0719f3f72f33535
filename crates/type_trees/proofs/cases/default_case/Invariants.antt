use Rattle.std.proofs.Common.{◌≡◌, drop}
use Rattle.type_trees.specs.Bridge.{cases_shape}
use Rattle.xt_shapes.specs.Select.{default_case}
use Rattle.type_trees.proofs.cases.default_case.Given as goal

abbrev pub invariant-loop-case : goal.invariant-loop-case
invariant-loop-case l = default_case (cases_shape (drop l.case-index l.cases)) ≡ default_case (cases_shape l.cases)
