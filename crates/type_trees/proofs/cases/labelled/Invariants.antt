use Rattle.std.proofs.Common.{◌≡◌, drop}
use Rattle.type_trees.specs.Bridge.{cases_shape}
use Rattle.xt_shapes.specs.Select.{labelled}
use Rattle.type_trees.proofs.cases.labelled.Given as goal

abbrev pub invariant-loop-case : goal.invariant-loop-case
invariant-loop-case l = labelled (cases_shape (drop l.case-index l.cases)) l.number ≡ labelled (cases_shape l.cases) l.number
