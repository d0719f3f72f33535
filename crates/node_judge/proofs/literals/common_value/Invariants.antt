use Rattle.std.proofs.Common.{◌≡◌, drop, map}
use Rattle.xcdr_model.specs.Rules.{common_value}
use Rattle.node_judge.proofs.literals.common_value.Given as goal

abbrev pub invariant-loop-literal : goal.invariant-loop-literal
invariant-loop-literal g l = common_value (map g.T.LiteralView.literal_of (drop l.literal-index l.left)) (map g.T.LiteralView.literal_of l.right) ≡ common_value (map g.T.LiteralView.literal_of l.left) (map g.T.LiteralView.literal_of l.right)
