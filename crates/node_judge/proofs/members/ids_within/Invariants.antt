use Rattle.std.proofs.Common.{◌≡◌, drop, map}
use Rattle.node_judge.specs.Bare.{bare}
use Rattle.xcdr_model.specs.Rules.{ids_within}
use Rattle.node_judge.proofs.members.ids_within.Given as goal

abbrev pub invariant-loop-member : goal.invariant-loop-member
invariant-loop-member g l = ids_within (bare (map g.T.MemberView.head_of (drop l.member-index l.left))) (bare (map g.T.MemberView.head_of l.right)) ≡ ids_within (bare (map g.T.MemberView.head_of l.left)) (bare (map g.T.MemberView.head_of l.right))
