use Rattle.std.proofs.Common.{◌≡◌, drop}
use Rattle.type_trees.specs.Bridge.{members_shape}
use Rattle.xt_shapes.specs.Keyable.{counted_keyable}
use Rattle.node_rules.proofs.keys.+keyable.Given as goal

abbrev pub invariant-counted_keyable-loop-member : goal.invariant-counted_keyable-loop-member
invariant-counted_keyable-loop-member l = counted_keyable l.keyed (members_shape (drop l.member-index l.members)) ≡ counted_keyable l.keyed (members_shape l.members)
