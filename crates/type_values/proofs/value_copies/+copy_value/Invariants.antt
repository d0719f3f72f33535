use Rattle.std.proofs.Common.{◌≡◌, take, map}
use Rattle.type_trees.specs.View.{val, pair_val, body_val}
use Rattle.type_values.proofs.value_copies.+copy_value.Given as goal

abbrev pub invariant-copy_values-loop-value : goal.invariant-copy_values-loop-value
invariant-copy_values-loop-value l = map val l.copy ≡ map val (take l.value-index l.value-items)

abbrev pub invariant-copy_pairs-loop-pair : goal.invariant-copy_pairs-loop-pair
invariant-copy_pairs-loop-pair l = map pair_val l.copy ≡ map pair_val (take l.pair-index l.pair-items)

abbrev pub invariant-copy_slots-loop-slot : goal.invariant-copy_slots-loop-slot
invariant-copy_slots-loop-slot l = map body_val l.copy ≡ map body_val (take l.slot-index l.slot-items)
