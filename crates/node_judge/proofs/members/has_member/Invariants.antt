use Rattle.std.proofs.Common.{◌≡◌, drop, map}
use Rattle.node_judge.specs.Bare.{bare}
use Rattle.xt_shapes.specs.Select.{has_member}
use Rattle.node_judge.proofs.members.has_member.Given as goal

abbrev pub invariant-loop-member : goal.invariant-loop-member
invariant-loop-member g l = has_member (bare (map g.T.MemberView.head_of (drop l.member-index l.members))) l.id ≡ has_member (bare (map g.T.MemberView.head_of l.members)) l.id
