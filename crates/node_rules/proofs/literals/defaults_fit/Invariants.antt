use Rattle.std.proofs.Common.{◌≡◌, length, map}
use Rattle.type_trees.specs.Bridge.{literal_shape}
use Rattle.xt_shapes.specs.NodeRules.{at_most_one}
use Rattle.node_rules.proofs.literals.defaults_fit.Given as goal

abbrev pub invariant-loop-first : goal.invariant-loop-first
invariant-loop-first l = at_most_one (λ x. x.is_default) (map literal_shape l.rest) ≡ at_most_one (λ x. x.is_default) (map literal_shape l.literals)

abbrev pub decreases-loop-first : goal.decreases-loop-first
decreases-loop-first l = length l.rest
