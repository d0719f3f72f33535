use Rattle.std.proofs.Common.{◌∙◌, ap₂}
use Rattle.type_trees.specs.Bridge.{type_shape, members_shape}
use Rattle.xt_shapes.specs.Typing.{have_types}
use Rattle.packed_reader.specs.View.{packed_val}
use Rattle.key_instances.proofs.OfOctets.Chained.{slots_typed}
use Rattle.key_instances.proofs.OfOctets.PackedSlots.{slots_are}
use Rattle.key_instances.proofs.octets.packed.packed_key_octets.Goals as goal

pub members_octets-requires-clause-typed : goal.members_octets-requires-clause-typed
members_octets-requires-clause-typed c =
    let v = c.args.value.now in
    let slots = slots_are v _ c.as_slice-in-Struct.result.now c.in-Struct.is c.as_slice-in-Struct.ensures in
    ap₂ (λ ms ss. have_types (members_shape ms) ss) c.as_slice.ensures slots ∙ slots_typed (type_shape c.args.ty.now) _ (packed_val v) c.in-Some.ensures c.requires.typed
