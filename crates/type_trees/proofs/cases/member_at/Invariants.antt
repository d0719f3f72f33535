use Rattle.std.proofs.Common.{◌≡◌, drop}
use Rattle.type_trees.specs.Bridge.{members_shape}
use Rattle.xt_shapes.specs.Select.{shape_at}
use Rattle.type_trees.proofs.cases.member_at.Given as goal

abbrev pub invariant-loop-member : goal.invariant-loop-member
invariant-loop-member l = shape_at (members_shape (drop l.member-index l.members)) l.id ≡ shape_at (members_shape l.members) l.id
