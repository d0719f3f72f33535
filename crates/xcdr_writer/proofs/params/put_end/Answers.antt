use Rattle.std.proofs.Common.{ℕ, ◌++◌, refl}
use Rattle.std.proofs.lemmas.Result.{err_from_is_err_and}
use Rattle.xt_shapes.specs.declared.leaves.Order.{Order}
use Rattle.xcdr_model.specs.FixedSpelling.{then_fixed, end_fixed}
use Rattle.xcdr_model.specs.Numbers.{octets}
use Rattle.xt_wire.specs.writer.Writing.{padding_fixed}
use Rattle.xt_wire.proofs.OfWriter.Puts.{begins, goes_on, left_as, last, fails, within, whole}
use Rattle.xcdr_writer.proofs.Chains.{in_order}
use Rattle.xcdr_writer.proofs.params.put_end.Goals as goal

pub returns-in_err-align : goal.returns-in_err-align
unfolding end_fixed then_fixed
returns-in_err-align g c =
    let o = c.args.out.now.order in
    let header = λ (p : ℕ). octets o 2 0x7F02 ++ octets o 2 0 in
    let e = err_from_is_err_and c.from_residual.result c.from_residual.ensures.1 in
    whole (λ limit. rw e.1 (fails (padding_fixed 4) header (begins limit (end_fixed o) (then_fixed (padding_fixed 4) header) c.args.out.now (λ p. refl)) (within c.in_err-align.ensures)))

pub returns-in_err-put_number : goal.returns-in_err-put_number
unfolding end_fixed then_fixed
returns-in_err-put_number g c =
    let o = c.args.out.now.order in
    let id = λ (p : ℕ). octets o 2 0x7F02 in
    let length = λ (p : ℕ). octets o 2 0 in
    let header = λ (p : ℕ). octets o 2 0x7F02 ++ octets o 2 0 in
    let e = err_from_is_err_and c.from_residual-in_err-put_number.result c.from_residual-in_err-put_number.ensures.1 in
    whole (λ limit.
    let u = goes_on (padding_fixed 4) header (begins limit (end_fixed o) (then_fixed (padding_fixed 4) header) c.args.out.now (λ p. refl)) (within c.in_ok-align.ensures) in
    rw e.1 (fails id length (left_as header (then_fixed id length) (λ p. refl) u) (within (in_order (λ (k : Order) (p : ℕ). octets k 2 0x7F02) u.keeps c.in_err-put_number.ensures))))

pub returns : goal.returns
unfolding end_fixed then_fixed
returns g c =
    let o = c.args.out.now.order in
    let id = λ (p : ℕ). octets o 2 0x7F02 in
    let length = λ (p : ℕ). octets o 2 0 in
    let header = λ (p : ℕ). octets o 2 0x7F02 ++ octets o 2 0 in
    whole (λ limit.
    let u = goes_on (padding_fixed 4) header (begins limit (end_fixed o) (then_fixed (padding_fixed 4) header) c.args.out.now (λ p. refl)) (within c.in_ok-align.ensures) in
    let v = goes_on id length (left_as header (then_fixed id length) (λ p. refl) u) (within (in_order (λ (k : Order) (p : ℕ). octets k 2 0x7F02) u.keeps c.in_ok-put_number.ensures)) in
    last length v (within (in_order (λ (k : Order) (p : ℕ). octets k 2 0) v.keeps c.put_number-2.ensures)))
