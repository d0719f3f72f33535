use Rattle.std.proofs.Common.{◌≡◌, drop}
use Rattle.type_trees.specs.Bridge.{members_shape}
use Rattle.xt_shapes.specs.Shape.{heads}
use Rattle.xt_shapes.specs.NodeRules.{keys_discard}
use Rattle.node_rules.proofs.keys.keys_discard.Given as goal

abbrev pub invariant-loop-member : goal.invariant-loop-member
invariant-loop-member l = keys_discard (heads (members_shape (drop l.member-index l.members))) ≡ keys_discard (heads (members_shape l.members))
