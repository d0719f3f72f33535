use Rattle.std.proofs.Common.{◌≡◌, map}
use Rattle.std.specs.Prelude.{replicate}
use Rattle.xt_shapes.specs.Vals.{absent}
use Rattle.packed_reader.specs.View.{packed_slot}
use Rattle.packed_json.proofs.tapes.members.absent_slots.Given as goal

abbrev pub invariant-loop-slot : goal.invariant-loop-slot
invariant-loop-slot l = map packed_slot l.slots ≡ replicate l.slot absent
