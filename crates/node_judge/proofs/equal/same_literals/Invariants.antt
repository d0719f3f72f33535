use Rattle.std.proofs.Common.{◌≡◌, drop, map, length}
use Rattle.xcdr_model.specs.Equivalence.{each_pair, same_literal}
use Rattle.node_judge.proofs.equal.same_literals.Given as goal

abbrev pub invariant-loop-at : goal.invariant-loop-at
invariant-loop-at g l = (each_pair same_literal (map g.T.LiteralView.literal_of (drop l.at l.left)) (map g.T.LiteralView.literal_of (drop l.at l.right)) ≡ each_pair same_literal (map g.T.LiteralView.literal_of l.left) (map g.T.LiteralView.literal_of l.right)) × (length l.left ≡ length l.right)
