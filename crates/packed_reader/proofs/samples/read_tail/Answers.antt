use Rattle.std.proofs.Common.{refl, ◌∙◌}
use Rattle.type_trees.specs.declared.types.StructType.{out-StructType}
use Rattle.type_trees.specs.Bridge.{type_shape, members_shape}
use Rattle.packed_reader.specs.Spots.{spot_of}
use Rattle.packed_reader.proofs.SampleSteps.{struct_shape, parts_sound, parts_guided}
use Rattle.packed_reader.proofs.samples.read_tail.Goals as goal

pub read_members-requires : goal.read_members-requires
read_members-requires c =
    let k = out-StructType c.in_ok-kind.kind.now in
    let t = type_shape c.args.ty.now in
    let is = struct_shape t k.ext (members_shape k.members) c.in_ok-kind.ensures in
    let (apart, sound) = parts_sound t k.ext (members_shape k.members) is c.requires.sound in
    let guide = parts_guided t k.ext (members_shape k.members) c.args.guide.now is c.requires.guide in
    rw c.as_slice.ensures (record { apart = apart; sound = sound; guide = guide })

pub returns : goal.returns
returns c =
    let k = out-StructType c.in_ok-kind.kind.now in
    let t = type_shape c.args.ty.now in
    let is = struct_shape t k.ext (members_shape k.members) c.in_ok-kind.ensures in
    record {
      members = members_shape c.as_slice.result.now;
      end = spot_of c.in_ok-value.field-0-1;
      type_is = is ∙ rw (c.in-Appendable.is, c.as_slice.ensures) refl;
      value = c.in_ok-value.ensures;
    }
