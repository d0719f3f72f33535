use Rattle.std.proofs.Common.{◌≡◌, length}
use Rattle.type_trees.specs.Bridge.{cases_shape}
use Rattle.xt_shapes.specs.Shape.{case_heads}
use Rattle.xt_shapes.specs.NodeRules.{at_most_one}
use Rattle.node_rules.proofs.labels.one_default.Given as goal

abbrev pub invariant-loop-first : goal.invariant-loop-first
invariant-loop-first l = at_most_one (λ x. x.is_default) (case_heads (cases_shape l.rest)) ≡ at_most_one (λ x. x.is_default) (case_heads (cases_shape l.cases))

abbrev pub decreases-loop-first : goal.decreases-loop-first
decreases-loop-first l = length l.rest
