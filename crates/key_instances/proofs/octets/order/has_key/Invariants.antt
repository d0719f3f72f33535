use Rattle.std.proofs.Common.{◌≡◌, drop}
use Rattle.type_trees.specs.Bridge.{members_shape}
use Rattle.xt_shapes.specs.Keyable.{any_key}
use Rattle.key_instances.proofs.octets.order.has_key.Given as goal

abbrev pub invariant-loop-member : goal.invariant-loop-member
invariant-loop-member l = any_key (members_shape (drop l.member-index l.members)) ≡ any_key (members_shape l.members)
