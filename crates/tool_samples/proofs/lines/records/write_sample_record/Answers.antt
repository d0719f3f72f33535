use Rattle.std.proofs.Common.{◌≡◌, ◌∙◌, ◌++◌, ap, sym, subst, length, OnOk, OnErr}
use Rattle.std.specs.Io.KnownBytes.{Appends}
use Rattle.xt_io.specs.Outside.{AppendsPrefix}
use Rattle.xt_io.specs.declared.Kind.TheVariants.{Sample}
use Rattle.xt_io.specs.Records.{head_octets, record_octets}
use Rattle.xt_shapes.specs.declared.leaves.Order.TheVariants.{Little}
use Rattle.type_trees.specs.View.{val}
use Rattle.type_trees.specs.Bridge.{type_shape}
use Rattle.xcdr_model.specs.SampleSpelling.{fixed_sample}
use Rattle.tool_samples.proofs.lines.records.write_sample_record.Goals as goal

pub returns-clause-whole : goal.returns-clause-whole
returns-clause-whole g c =
    let t = type_shape c.args.ty.now in
    let v = val c.args.value.now in
    let octets = fixed_sample c.args.rep Little t v in
    let size : length octets ≡ c.args.octets = c.sample_sized.ensures c.args.rep Little t v ∙ sym c.requires.size in
    let same : record_octets Sample octets ≡ c.as_slice.result.now ++ octets = ap (λ n. head_octets Sample n ++ octets) size ∙ ap (λ h. h ++ octets) (sym (c.as_slice.ensures ∙ c.sample_head-head.ensures)) in
    subst (λ piece. OnOk c.write_headed.result (Appends (g.K.Sink.taken c.args.sink.now) (g.K.Sink.taken c.write_headed.new.sink) piece)) (sym same) c.write_headed.ensures.whole

pub returns-clause-prefix : goal.returns-clause-prefix
returns-clause-prefix g c =
    let t = type_shape c.args.ty.now in
    let v = val c.args.value.now in
    let octets = fixed_sample c.args.rep Little t v in
    let size : length octets ≡ c.args.octets = c.sample_sized.ensures c.args.rep Little t v ∙ sym c.requires.size in
    let same : record_octets Sample octets ≡ c.as_slice.result.now ++ octets = ap (λ n. head_octets Sample n ++ octets) size ∙ ap (λ h. h ++ octets) (sym (c.as_slice.ensures ∙ c.sample_head-head.ensures)) in
    subst (λ piece. OnErr c.write_headed.result (AppendsPrefix (g.K.Sink.taken c.args.sink.now) (g.K.Sink.taken c.write_headed.new.sink) piece)) (sym same) c.write_headed.ensures.prefix
