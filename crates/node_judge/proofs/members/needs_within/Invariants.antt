use Rattle.std.proofs.Common.{◌≡◌, drop, map}
use Rattle.node_judge.specs.Bare.{bare}
use Rattle.xcdr_model.specs.Rules.{needs_within}
use Rattle.node_judge.proofs.members.needs_within.Given as goal

abbrev pub invariant-loop-member : goal.invariant-loop-member
invariant-loop-member g l = needs_within (bare (map g.T.MemberView.head_of (drop l.member-index l.left))) (bare (map g.T.MemberView.head_of l.right)) ≡ needs_within (bare (map g.T.MemberView.head_of l.left)) (bare (map g.T.MemberView.head_of l.right))
