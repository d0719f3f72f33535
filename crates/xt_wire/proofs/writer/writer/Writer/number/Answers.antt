use Rattle.std.proofs.Common.{ap, ℕ, sym}
use Rattle.std.proofs.lemmas.Result.{err_from_is_err_and}
use Rattle.xcdr_model.specs.FixedSpelling.{number_fixed, then_fixed}
use Rattle.xcdr_model.specs.Numbers.{octets}
use Rattle.xt_wire.specs.writer.Writing.{padding_fixed}
use Rattle.xt_wire.proofs.OfWriter.Puts.{begins, goes_on, last, fails, number_parts, same_puts, within, whole}
use Rattle.xt_wire.proofs.writer.writer.Writer.number.Goals as goal

pub returns : goal.returns
returns g c =
    let size = c.args.size in
    let now = c.args.self.now in
    let rest = λ (q : ℕ). octets now.order size c.args.number in
    whole (λ limit.
    let u = begins limit (number_fixed c.args.most now.order size c.args.number) (then_fixed (padding_fixed c.min.result) rest) now (λ p. rw c.min.ensures (number_parts c.args.most now.order size c.args.number p)) in
    last rest (goes_on (padding_fixed c.min.result) rest u (within c.in_ok-align.ensures)) (within (same_puts rest _ (λ p at. ap (λ o. octets o size c.args.number) (sym c.align.ensures.keeps.order)) c.digits.ensures)))

pub returns-in_err-align : goal.returns-in_err-align
returns-in_err-align g c =
    let size = c.args.size in
    let now = c.args.self.now in
    let rest = λ (q : ℕ). octets now.order size c.args.number in
    let p = err_from_is_err_and c.from_residual.result c.from_residual.ensures.1 in
    whole (λ limit.
    let u = begins limit (number_fixed c.args.most now.order size c.args.number) (then_fixed (padding_fixed c.min.result) rest) now (λ p. rw c.min.ensures (number_parts c.args.most now.order size c.args.number p)) in
    rw p.1 (fails (padding_fixed c.min.result) rest u (within c.in_err-align.ensures)))
