use Rattle.std.proofs.Common.{ℕ, refl}
use Rattle.std.proofs.lemmas.Result.{err_from_is_err_and}
use Rattle.xt_shapes.specs.declared.leaves.Order.{Order}
use Rattle.xcdr_model.specs.FixedSpelling.{then_fixed, header_fixed}
use Rattle.xt_wire.specs.writer.Writing.{padding_fixed}
use Rattle.xt_wire.proofs.OfWriter.Puts.{begins, goes_on, last, fails, within, whole}
use Rattle.xcdr_writer.specs.Parts.{header_behind}
use Rattle.xcdr_writer.proofs.Chains.{in_order}
use Rattle.xcdr_writer.proofs.params.put_header.Goals as goal

pub returns-in_err-align : goal.returns-in_err-align
returns-in_err-align g c =
    let o = c.args.out.now.order in
    let header = λ (k : Order) (p : ℕ). header_fixed k c.args.must c.args.id c.args.length in
    let e = err_from_is_err_and c.from_residual.result c.from_residual.ensures.1 in
    whole (λ limit. rw e.1 (fails (padding_fixed 4) (header o) (begins limit (header_behind o c.args.must c.args.id c.args.length) (then_fixed (padding_fixed 4) (header o)) c.args.out.now (λ p. refl)) (within c.in_err-align.ensures)))

pub returns : goal.returns
returns g c =
    let o = c.args.out.now.order in
    let header = λ (k : Order) (p : ℕ). header_fixed k c.args.must c.args.id c.args.length in
    whole (λ limit.
    let u = goes_on (padding_fixed 4) (header o) (begins limit (header_behind o c.args.must c.args.id c.args.length) (then_fixed (padding_fixed 4) (header o)) c.args.out.now (λ p. refl)) (within c.in_ok-align.ensures) in
    last (header o) u (within (in_order header u.keeps c.put_form.ensures)))
