use Rattle.std.proofs.Common.{◌∙◌, ◌++◌, ap}
use Rattle.xt_shapes.specs.declared.leaves.Order.TheVariants.{Little}
use Rattle.type_trees.specs.Bridge.{type_shape}
use Rattle.xcdr_model.specs.SampleSpelling.{fixed_sample}
use Rattle.packed_reader.specs.View.{packed_val}
use Rattle.tool_samples.proofs.lines.records.plain_sample_record.Goals as goal

pub returns : goal.returns
returns c =
    let sample = fixed_sample c.args.rep Little (type_shape c.args.ty.now) (packed_val c.args.value.now) in
    c.from_vec.ensures ∙ c.in_ok-all.ensures sample (c.in_ok-write_plain.ensures ∙ ap (λ l. l ++ sample) c.in_ok-front.ensures)
