use Rattle.std.proofs.Common.{ℕ, ◌+◌, ◌*◌, ◌^◌, ◌++◌, refl}
use Rattle.xt_shapes.specs.declared.leaves.Order.TheVariants.{Little}
use Rattle.xcdr_model.specs.FixedSpelling.{then_fixed}
use Rattle.xcdr_model.specs.Numbers.{octets}
use Rattle.xcdr_model.specs.Xcdr2Spelling.{bit}
use Rattle.xt_wire.specs.writer.Writing.{padding_fixed}
use Rattle.xcdr_writer.specs.Parts.{long_header}
use Rattle.packed_writer.specs.Params.{long_begun}
use Rattle.packed_writer.proofs.Appending.{last}
use Rattle.packed_writer.proofs.params.put_long.Goals as goal

pub returns : goal.returns
unfolding then_fixed
returns c =
    let must = c.args.must in
    let id = c.args.id in
    let n = bit must * 2 ^ 30 + id in
    let rest = λ (p : ℕ). long_header Little must id 0 in
    let more = λ (p : ℕ). octets Little 2 8 ++ (octets Little 4 n ++ octets Little 4 0) in
    let end = λ (p : ℕ). octets Little 4 n ++ octets Little 4 0 in
    last c.digits-4.result c.digits-4.new.self (long_begun must id) (padding_fixed 4) rest (λ p. refl) c.in_ok-align.ensures
    (last c.digits-4.result c.digits-4.new.self rest (λ (p : ℕ). octets Little 2 0x7F01) more (λ p. refl) c.in_ok-digits.ensures
    (last c.digits-4.result c.digits-4.new.self more (λ (p : ℕ). octets Little 2 8) end (λ p. refl) c.in_ok-digits-2.ensures
    (last c.digits-4.result c.digits-4.new.self end (λ (p : ℕ). octets Little 4 n) (λ (p : ℕ). octets Little 4 0) (λ p. refl) (rw c.marked.ensures at c.in_ok-digits-3.ensures) c.digits-4.ensures)))
