use Rattle.std.proofs.Common.{◌≡◌, length}
use Rattle.xt_shapes.specs.Lists.{all}
use Rattle.node_rules.specs.distinct.InBlocks.{holds_one}
use Rattle.node_rules.proofs.distinct.blocks.all_among.Given as goal

abbrev pub invariant-loop-others : goal.invariant-loop-others
invariant-loop-others g l = all (holds_one (g.M.Numbers.left l.others)) (g.N.Numbers.left l.numbers) ≡ all (holds_one (g.M.Numbers.left l.others)) (g.N.Numbers.left l.initial.numbers)

abbrev pub decreases-loop-others : goal.decreases-loop-others
decreases-loop-others g l = length (g.N.Numbers.left l.numbers)
