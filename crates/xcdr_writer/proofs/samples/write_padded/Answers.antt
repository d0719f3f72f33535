use Rattle.std.proofs.Common.{ℕ, replicate}
use Rattle.type_trees.specs.Bridge.{type_shape}
use Rattle.type_trees.specs.View.{val}
use Rattle.xcdr_model.specs.FixedSpelling.{fixed_of}
use Rattle.xt_outside.proofs.Joined.{on_err, first_part, second_part}
use Rattle.xcdr_writer.proofs.samples.write_padded.Goals as goal

pub returns-in_err-write_body-clause-prefix : goal.returns-in_err-write_body-clause-prefix
returns-in_err-write_body-clause-prefix g c =
    let body = fixed_of c.args.rep c.args.order (type_shape c.args.ty.now) (val c.args.value.now) 0 in
    on_err c.from_residual.result (first_part (g.K.Sink.taken c.args.sink.now) (g.K.Sink.taken c.write_body.new.sink) body (replicate {A = ℕ} c.args.padding 0) c.in_err-write_body.ensures.prefix)

pub returns-clause-prefix : goal.returns-clause-prefix
returns-clause-prefix g c =
    let body = fixed_of c.args.rep c.args.order (type_shape c.args.ty.now) (val c.args.value.now) 0 in
    second_part c.write_zeros.result (g.K.Sink.taken c.args.sink.now) (g.K.Sink.taken c.write_body.new.sink) (g.K.Sink.taken c.write_zeros.new.sink) body (replicate {A = ℕ} c.args.padding 0) c.in_ok-write_body.ensures.whole c.write_zeros.ensures.prefix
