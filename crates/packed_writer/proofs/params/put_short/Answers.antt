use Rattle.std.proofs.Common.{ℕ, ◌+◌, ◌*◌, ◌^◌, refl}
use Rattle.xt_shapes.specs.declared.leaves.Order.TheVariants.{Little}
use Rattle.xcdr_model.specs.FixedSpelling.{then_fixed}
use Rattle.xcdr_model.specs.Numbers.{octets}
use Rattle.xcdr_model.specs.Xcdr2Spelling.{bit}
use Rattle.xt_wire.specs.writer.Writing.{padding_fixed}
use Rattle.xcdr_writer.specs.Parts.{short_header}
use Rattle.packed_writer.specs.Params.{short_begun}
use Rattle.packed_writer.proofs.Appending.{last}
use Rattle.packed_writer.proofs.params.put_short.Goals as goal

pub returns : goal.returns
unfolding then_fixed
returns c =
    let must = c.args.must in
    let id = c.args.id in
    let rest = λ (p : ℕ). short_header Little must id 0 in
    let member = λ (p : ℕ). octets Little 2 (bit must * 2 ^ 14 + id) in
    last c.digits-2.result c.digits-2.new.self (short_begun must id) (padding_fixed 4) rest (λ p. refl) c.in_ok-align.ensures (last c.digits-2.result c.digits-2.new.self rest member (λ (p : ℕ). octets Little 2 0) (λ p. refl) (rw c.marked.ensures at c.in_ok-digits.ensures) c.digits-2.ensures)
