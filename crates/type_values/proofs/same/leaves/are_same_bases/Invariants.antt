use Rattle.std.proofs.Common.{◌≡◌, take, length}
use Rattle.type_values.proofs.same.leaves.are_same_bases.Given as goal

abbrev pub invariant-loop-at : goal.invariant-loop-at
invariant-loop-at l = (take l.at l.left ≡ take l.at l.right) × (length l.left ≡ length l.right)
