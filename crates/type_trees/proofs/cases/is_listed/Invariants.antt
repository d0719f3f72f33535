use Rattle.std.proofs.Common.{◌≡◌, drop}
use Rattle.std.specs.Ordering.{int_eq}
use Rattle.xt_shapes.specs.Lists.{has}
use Rattle.type_trees.proofs.cases.is_listed.Given as goal

abbrev pub invariant-loop-label : goal.invariant-loop-label
invariant-loop-label l = has (int_eq l.number) (drop l.label-index l.labels) ≡ has (int_eq l.number) l.labels
