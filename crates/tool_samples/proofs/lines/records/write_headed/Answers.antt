use Rattle.xt_shapes.specs.declared.leaves.Order.TheVariants.{Little}
use Rattle.type_trees.specs.View.{val}
use Rattle.type_trees.specs.Bridge.{type_shape}
use Rattle.xcdr_model.specs.SampleSpelling.{fixed_sample}
use Rattle.xt_outside.proofs.Joined.{on_err, first_part, second_part}
use Rattle.tool_samples.proofs.lines.records.write_headed.Goals as goal

pub returns-in_err-write_whole-clause-prefix : goal.returns-in_err-write_whole-clause-prefix
returns-in_err-write_whole-clause-prefix g c =
    let octets = fixed_sample c.args.rep Little (type_shape c.args.ty.now) (val c.args.value.now) in
    on_err c.from_residual.result (first_part (g.K.Sink.taken c.args.sink.now) (g.K.Sink.taken c.write_whole.new.sink) c.args.head.now octets c.in_err-write_whole.ensures.prefix)

pub returns-clause-prefix : goal.returns-clause-prefix
returns-clause-prefix g c =
    let octets = fixed_sample c.args.rep Little (type_shape c.args.ty.now) (val c.args.value.now) in
    second_part c.write_sample.result (g.K.Sink.taken c.args.sink.now) (g.K.Sink.taken c.write_whole.new.sink) (g.K.Sink.taken c.write_sample.new.sink) c.args.head.now octets c.in_ok-write_whole.ensures.whole c.write_sample.ensures.prefix
