use Rattle.std.proofs.Common.{ℕ, ◌++◌, refl}
use Rattle.xt_shapes.specs.declared.leaves.Order.TheVariants.{Little}
use Rattle.xcdr_model.specs.FixedSpelling.{then_fixed, end_fixed}
use Rattle.xcdr_model.specs.Numbers.{octets}
use Rattle.xt_wire.specs.writer.Writing.{padding_fixed}
use Rattle.packed_writer.proofs.Appending.{last}
use Rattle.packed_writer.proofs.params.put_end.Goals as goal

pub returns : goal.returns
unfolding then_fixed end_fixed
returns c =
    let rest = λ (p : ℕ). octets Little 2 0x7F02 ++ octets Little 2 0 in
    last c.digits-2.result c.digits-2.new.self (end_fixed Little) (padding_fixed 4) rest (λ p. refl) c.in_ok-align.ensures (last c.digits-2.result c.digits-2.new.self rest (λ (p : ℕ). octets Little 2 0x7F02) (λ (p : ℕ). octets Little 2 0) (λ p. refl) c.in_ok-digits.ensures c.digits-2.ensures)
