use Rattle.std.proofs.Common.{◌≡◌, length}
use Rattle.xt_shapes.specs.Lists.{has}
use Rattle.node_rules.specs.distinct.InBlocks.{holds_one}
use Rattle.node_rules.proofs.distinct.blocks.meets.Given as goal

abbrev pub invariant-loop-number : goal.invariant-loop-number
invariant-loop-number g l = has (holds_one l.block) (g.N.Numbers.left l.numbers) ≡ has (holds_one l.block) (g.N.Numbers.left l.initial.numbers)

abbrev pub decreases-loop-number : goal.decreases-loop-number
decreases-loop-number g l = length (g.N.Numbers.left l.numbers)
