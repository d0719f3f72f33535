use Rattle.type_trees.specs.Bridge.{type_shape}
use Rattle.packed_reader.specs.View.{packed_val}
use Rattle.packed_reader.proofs.SampleSteps.{sample_is}
use Rattle.packed_reader.proofs.samples.read_plain.Goals as goal

pub returns : goal.returns
returns c =
    sample_is c.args.rep c.in_ok-order.order (type_shape c.args.ty.now) c.top_of.result c.args.sample.now c.in_ok-order.pad c.in_ok-order.behind.now c.split_at.result.0.now (packed_val c.in_ok-value.value) c.top_of.ensures c.in_ok-order.ensures c.if-behind-pad.false c.split_at.ensures.front c.in_ok-value.ensures
