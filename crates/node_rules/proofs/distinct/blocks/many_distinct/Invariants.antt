use Rattle.std.proofs.Common.{◌≡◌, length}
use Rattle.std.specs.Ordering.{int_eq}
use Rattle.xt_shapes.specs.NodeRules.{distinct}
use Rattle.node_rules.proofs.distinct.blocks.many_distinct.Given as goal

abbrev pub invariant-loop-numbers : goal.invariant-loop-numbers
invariant-loop-numbers g l = distinct int_eq (g.N.Numbers.left l.numbers) ≡ distinct int_eq (g.N.Numbers.left l.initial.numbers)

abbrev pub decreases-loop-numbers : goal.decreases-loop-numbers
decreases-loop-numbers g l = length (g.N.Numbers.left l.numbers)
