use Rattle.std.proofs.Common.{length}
use Rattle.type_trees.specs.Bridge.{members_shape}
use Rattle.type_trees.specs.View.{slots_val}
use Rattle.xt_wire.proofs.OfWriter.Puts.{Going}
use Rattle.xcdr_model.specs.KeyOctets.{key_types}
use Rattle.xcdr_model.specs.Keys.{key_parts}
use Rattle.key_instances.specs.octets.Chains.{chained, counted_fixed}
use Rattle.key_instances.proofs.OfOctets.From.{from}
use Rattle.key_instances.proofs.octets.parts.+parts.Given as goal

abbrev pub invariant-put_counted-members : goal.invariant-put_counted-members
invariant-put_counted-members g l =
    let o = l.initial.out.order in
    let ms = members_shape l.members in
    let ss = slots_val l.slots in
    Going 4294967296 (counted_fixed o l.keyed ms ss) (chained o (from l.from (key_types l.keyed ms)) (from l.from (key_parts l.keyed ms ss))) l.initial.out l.out

abbrev pub decreases-put_counted-members : goal.decreases-put_counted-members
decreases-put_counted-members g l = length (from l.from (key_types l.keyed (members_shape l.members)))
