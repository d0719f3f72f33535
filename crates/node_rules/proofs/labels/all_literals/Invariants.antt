use Rattle.std.proofs.Common.{◌≡◌, drop, map}
use Rattle.type_trees.specs.Bridge.{literal_shape}
use Rattle.xt_shapes.specs.Lists.{all}
use Rattle.xt_shapes.specs.Select.{is_literal}
use Rattle.node_rules.proofs.labels.all_literals.Given as goal

abbrev pub invariant-loop-label : goal.invariant-loop-label
invariant-loop-label l = all (is_literal (map literal_shape l.literals)) (drop l.label-index l.labels) ≡ all (is_literal (map literal_shape l.literals)) l.labels
