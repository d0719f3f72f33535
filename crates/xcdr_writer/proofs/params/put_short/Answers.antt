use Rattle.std.proofs.Common.{ℕ, refl}
use Rattle.xt_shapes.specs.declared.leaves.Order.{Order}
use Rattle.xcdr_model.specs.FixedSpelling.{then_fixed}
use Rattle.xcdr_model.specs.Numbers.{octets}
use Rattle.xt_wire.proofs.OfWriter.Puts.{begins, goes_on, last, within, whole}
use Rattle.xcdr_writer.specs.Parts.{short_header}
use Rattle.xcdr_writer.proofs.Chains.{in_order}
use Rattle.xcdr_writer.proofs.params.put_short.Goals as goal

pub returns : goal.returns
unfolding then_fixed
returns g c =
    let o = c.args.out.now.order in
    let n = c.marked-member.result in
    let id = λ (p : ℕ). octets o 2 n in
    let length = λ (p : ℕ). octets o 2 c.args.length in
    whole (λ limit.
    let u = goes_on id length (begins limit (λ p. short_header o c.args.must c.args.id c.args.length) (then_fixed id length) c.args.out.now (λ p. rw c.marked-member.ensures refl)) (within c.in_ok-put_number.ensures) in
    last length u (within (in_order (λ (k : Order) (p : ℕ). octets k 2 c.args.length) u.keeps c.put_number-2.ensures)))
