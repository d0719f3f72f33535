use Rattle.std.proofs.Common.{◌≡◌, drop}
use Rattle.xt_shapes.specs.Lists.{all}
use Rattle.xt_shapes.specs.Typing.{of_prim}
use Rattle.node_rules.proofs.labels.all_of_prim.Given as goal

abbrev pub invariant-loop-label : goal.invariant-loop-label
invariant-loop-label l = all (of_prim l.prim) (drop l.label-index l.labels) ≡ all (of_prim l.prim) l.labels
