use Rattle.std.proofs.Common.{◌≡◌, map, take}
use Rattle.type_trees.specs.View.{val, body_val}
use Rattle.packed_reader.specs.View.{packed_val, packed_slot}
use Rattle.key_instances.proofs.octets.unpacked.+unpacked.Given as goal

abbrev pub invariant-unpacked_list-loop-value : goal.invariant-unpacked_list-loop-value
invariant-unpacked_list-loop-value l = map val l.list ≡ map packed_val (take l.value-index l.values)

abbrev pub invariant-unpacked_slots-loop-slot : goal.invariant-unpacked_slots-loop-slot
invariant-unpacked_slots-loop-slot l = map body_val l.list ≡ map packed_slot (take l.slot-index l.slots)
