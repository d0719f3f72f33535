use Rattle.std.proofs.Common.{◌≡◌, drop, map}
use Rattle.node_judge.specs.Bare.{bare}
use Rattle.xt_shapes.specs.Keyable.{any_key}
use Rattle.node_judge.proofs.members.any_key.Given as goal

abbrev pub invariant-loop-member : goal.invariant-loop-member
invariant-loop-member g l = any_key (bare (map g.T.MemberView.head_of (drop l.member-index l.members))) ≡ any_key (bare (map g.T.MemberView.head_of l.members))
