use Rattle.std.proofs.Common.{◌≡◌, drop, map}
use Rattle.node_judge.specs.Bare.{bare}
use Rattle.xcdr_model.specs.Rules.{common_member}
use Rattle.node_judge.proofs.members.common_member.Given as goal

abbrev pub invariant-loop-member : goal.invariant-loop-member
invariant-loop-member g l = common_member (bare (map g.T.MemberView.head_of (drop l.member-index l.left))) (bare (map g.T.MemberView.head_of l.right)) ≡ common_member (bare (map g.T.MemberView.head_of l.left)) (bare (map g.T.MemberView.head_of l.right))
