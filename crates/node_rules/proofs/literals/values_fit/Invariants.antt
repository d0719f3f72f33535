use Rattle.std.proofs.Common.{◌≡◌, drop, map}
use Rattle.type_trees.specs.Bridge.{literal_shape}
use Rattle.xt_shapes.specs.Lists.{all}
use Rattle.xt_shapes.specs.NodeRules.{value_fits}
use Rattle.node_rules.proofs.literals.values_fit.Given as goal

abbrev pub invariant-loop-literal : goal.invariant-loop-literal
invariant-loop-literal l =
    all (λ x. value_fits l.bits x.value) (map literal_shape (drop l.literal-index l.literals)) ≡ all (λ x. value_fits l.bits x.value) (map literal_shape l.literals)
