use Rattle.std.proofs.Common.{◌≡◌, drop, map}
use Rattle.xcdr_model.specs.Rules.{values_within}
use Rattle.node_judge.proofs.literals.values_within.Given as goal

abbrev pub invariant-loop-literal : goal.invariant-loop-literal
invariant-loop-literal g l = values_within (map g.T.LiteralView.literal_of (drop l.literal-index l.left)) (map g.T.LiteralView.literal_of l.right) ≡ values_within (map g.T.LiteralView.literal_of l.left) (map g.T.LiteralView.literal_of l.right)
