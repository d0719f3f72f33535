use Rattle.std.proofs.Common.{◌≡◌, drop}
use Rattle.type_trees.specs.Bridge.{cases_shape}
use Rattle.xcdr_model.specs.Failure.{is_met}
use Rattle.assignability.proofs.met.is_met.Given as goal

abbrev pub invariant-loop-label : goal.invariant-loop-label
invariant-loop-label l = is_met (cases_shape l.left) (cases_shape l.right) (drop l.label-index l.labels) l.id l.other ≡ is_met (cases_shape l.left) (cases_shape l.right) l.labels l.id l.other
