use Rattle.std.proofs.Common.{◌≡◌, drop}
use Rattle.type_trees.specs.Bridge.{members_shape}
use Rattle.xcdr_model.specs.Failure.{key_failure}
use Rattle.assignability.proofs.tops.key_failure.Given as goal

abbrev pub invariant-loop-member : goal.invariant-loop-member
invariant-loop-member l = key_failure (members_shape (drop l.member-index l.left)) (members_shape l.right) ≡ key_failure (members_shape l.left) (members_shape l.right)
