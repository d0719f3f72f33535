use Rattle.std.proofs.Common.{◌≡◌, drop, map}
use Rattle.node_judge.specs.Bare.{bare}
use Rattle.xcdr_model.specs.Keys.{counts_id}
use Rattle.node_judge.proofs.members.counts_id.Given as goal

abbrev pub invariant-loop-member : goal.invariant-loop-member
invariant-loop-member g l = counts_id l.keyed (bare (map g.T.MemberView.head_of (drop l.member-index l.members))) l.id ≡ counts_id l.keyed (bare (map g.T.MemberView.head_of l.members)) l.id
