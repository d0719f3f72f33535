use Rattle.std.proofs.Common.{◌≡◌, drop}
use Rattle.type_trees.specs.View.{members_tree, slots_val}
use Rattle.dynamic_data.specs.Reach.{member_reached}
use Rattle.dynamic_data.proofs.reach.+get.Given as goal

abbrev pub invariant-get_member-loop-at : goal.invariant-get_member-loop-at
invariant-get_member-loop-at l =
    member_reached (members_tree (drop l.at l.members)) l.name l.names (slots_val (drop l.at l.slots)) ≡ member_reached (members_tree l.members) l.name l.names (slots_val l.slots)
