use Rattle.std.proofs.Common.{◌≡◌, drop}
use Rattle.type_trees.specs.Bridge.{members_shape}
use Rattle.xt_shapes.specs.Select.{has_member}
use Rattle.type_trees.proofs.cases.has_member.Given as goal

abbrev pub invariant-loop-member : goal.invariant-loop-member
invariant-loop-member l = has_member (members_shape (drop l.member-index l.members)) l.id ≡ has_member (members_shape l.members) l.id
