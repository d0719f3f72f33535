use Rattle.type_trees.specs.Bridge.{members_shape, member_head}
use Rattle.xt_shapes.specs.Select.{has_member, is_must}
use Rattle.try_construct.proofs.FoundSteps.{at_has, not_needed}
use Rattle.try_construct.proofs.projected.next_start.Goals as goal

pub returns-in-Some : goal.returns-in-Some
returns-in-Some c = not_needed c.args.is_there (is_must (member_head c.args.other.now)) (has_member (members_shape c.args.members.now) c.args.other.now.id) (at_has c.args.members.now c.args.other.now.id c.in-Some.found c.in-Some.ensures)
