use Rattle.std.proofs.Common.{◌≡◌, drop, map}
use Rattle.node_judge.specs.Bare.{bare}
use Rattle.xcdr_model.specs.Rules.{same_places}
use Rattle.node_judge.proofs.members.same_places.Given as goal

abbrev pub invariant-loop-at : goal.invariant-loop-at
invariant-loop-at g l = same_places (bare (map g.T.MemberView.head_of (drop l.at l.left))) (bare (map g.T.MemberView.head_of (drop l.at l.right))) ≡ same_places (bare (map g.T.MemberView.head_of l.left)) (bare (map g.T.MemberView.head_of l.right))
