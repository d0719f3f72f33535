use Rattle.type_trees.specs.View.{tree}
use Rattle.type_trees.specs.Bridge.{type_shape}
use Rattle.type_values.proofs.ListTests.{octets_are}
use Rattle.packed_reader.specs.View.{packed_val}
use Rattle.xcdr_model.specs.Samples.{sample}
use Rattle.tool_samples.proofs.OfInstances.Turned.{key_of}
use Rattle.tool_samples.proofs.instances.putting.plain_key.Goals as goal

pub packed_key_octets-requires-clause-typed : goal.packed_key_octets-requires-clause-typed
packed_key_octets-requires-clause-typed c =
    let t = tree c.args.ty.now in
    (key_of c.args.rep (type_shape c.args.ty.now) c.args.payload.now (sample (packed_val c.in_ok-value.value)) c.sample_typed.ensures c.key_octets_bound.ensures (c.shape_keeps_rules.ensures t c.requires.valid) (c.is_within_limits.ensures t c.requires.valid).2
    (octets_are c.args.payload.now c.type_inv.payload) c.requires.size c.in_ok-value.ensures).0

pub packed_key_octets-requires-clause-few : goal.packed_key_octets-requires-clause-few
packed_key_octets-requires-clause-few c =
    let t = tree c.args.ty.now in
    (key_of c.args.rep (type_shape c.args.ty.now) c.args.payload.now (sample (packed_val c.in_ok-value.value)) c.sample_typed.ensures c.key_octets_bound.ensures (c.shape_keeps_rules.ensures t c.requires.valid) (c.is_within_limits.ensures t c.requires.valid).2
    (octets_are c.args.payload.now c.type_inv.payload) c.requires.size c.in_ok-value.ensures).1
