use Rattle.std.proofs.Common.{true, length, map}
use Rattle.type_trees.specs.Bridge.{members_shape}
use Rattle.xt_shapes.specs.Vals.{slots_of}
use Rattle.packed_reader.specs.View.{packed_slot}
use Rattle.xt_wire.proofs.OfWriter.Puts.{Going}
use Rattle.xcdr_model.specs.KeyOctets.{key_types}
use Rattle.xcdr_model.specs.Keys.{key_parts}
use Rattle.key_instances.specs.octets.Chains.{chained, counted_fixed}
use Rattle.key_instances.proofs.OfOctets.From.{from}
use Rattle.key_instances.proofs.octets.packed.put_packed.Given as goal

abbrev pub invariant-members : goal.invariant-members
invariant-members g l =
    let o = l.initial.out.order in
    let ms = members_shape l.members in
    let ss = slots_of (map packed_slot l.slots) in
    Going 4294967296 (counted_fixed o true ms ss) (chained o (from l.from (key_types true ms)) (from l.from (key_parts true ms ss))) l.initial.out l.out

abbrev pub decreases-members : goal.decreases-members
decreases-members g l = length (from l.from (key_types true (members_shape l.members)))
