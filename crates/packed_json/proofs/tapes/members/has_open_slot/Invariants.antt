use Rattle.std.proofs.Common.{◌≡◌, map, drop}
use Rattle.type_trees.specs.View.{members_tree}
use Rattle.packed_reader.specs.View.{packed_slot}
use Rattle.packed_json.specs.Tapes.{has_open}
use Rattle.packed_json.proofs.tapes.members.has_open_slot.Given as goal

abbrev pub invariant-loop-at : goal.invariant-loop-at
invariant-loop-at l = has_open (members_tree (drop l.at l.members)) (map packed_slot (drop l.at l.slots)) ≡ has_open (members_tree l.members) (map packed_slot l.slots)
