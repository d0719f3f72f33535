use Rattle.std.proofs.Common.{◌≡◌, drop, map}
use Rattle.node_judge.specs.Bare.{bare}
use Rattle.xcdr_model.specs.Keys.{counted_within}
use Rattle.node_judge.proofs.members.counted_within.Given as goal

abbrev pub invariant-loop-member : goal.invariant-loop-member
invariant-loop-member g l = counted_within l.keyed (bare (map g.T.MemberView.head_of (drop l.member-index l.members))) l.other (bare (map g.T.MemberView.head_of l.others)) ≡ counted_within l.keyed (bare (map g.T.MemberView.head_of l.members)) l.other (bare (map g.T.MemberView.head_of l.others))
