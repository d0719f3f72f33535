use Rattle.std.proofs.Common.{◌∙◌, sym}
use Rattle.node_judge.proofs.PlaceSteps.{places_right}
use Rattle.node_judge.proofs.members.same_places.Goals as goal

pub returns-then-at-right : goal.returns-then-at-right
returns-then-at-right g c = sym (places_right g.T.MemberView.head_of c.args.left.now c.args.right.now c.loop-at.at c.if-at-right.true) ∙ c.loop-at.invariant
