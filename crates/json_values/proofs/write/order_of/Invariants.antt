use Rattle.std.proofs.Common.{◌≡◌, drop}
use Rattle.serde_json.specs.Data.{no_members}
use Rattle.type_trees.specs.View.{members_tree, slots_val}
use Rattle.json_values.specs.Order.{entries_data}
use Rattle.json_values.specs.Written.{slots_data}
use Rattle.json_values.proofs.write.order_of.Given as goal

abbrev pub invariant-loop-at : goal.invariant-loop-at
invariant-loop-at l =
    slots_data (members_tree (drop l.at l.members)) (slots_val (drop l.at l.slots)) (entries_data l.members l.slots l.order.entries) ≡ slots_data (members_tree l.members) (slots_val l.slots) no_members
