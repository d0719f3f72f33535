use Rattle.std.proofs.Common.{◌≡◌, drop, map, length}
use Rattle.xcdr_model.specs.Equivalence.{each_pair, same_flag}
use Rattle.node_judge.proofs.equal.same_flags.Given as goal

abbrev pub invariant-loop-at : goal.invariant-loop-at
invariant-loop-at g l = (each_pair same_flag (map g.T.FlagView.flag_of (drop l.at l.left)) (map g.T.FlagView.flag_of (drop l.at l.right)) ≡ each_pair same_flag (map g.T.FlagView.flag_of l.left) (map g.T.FlagView.flag_of l.right)) × (length l.left ≡ length l.right)
