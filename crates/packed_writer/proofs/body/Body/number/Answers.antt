use Rattle.std.proofs.Common.{ℕ}
use Rattle.xt_shapes.specs.declared.leaves.Order.TheVariants.{Little}
use Rattle.xcdr_model.specs.FixedSpelling.{number_fixed}
use Rattle.xcdr_model.specs.Numbers.{octets}
use Rattle.xt_wire.specs.writer.Writing.{padding_fixed}
use Rattle.xt_wire.proofs.OfWriter.Puts.{number_parts}
use Rattle.packed_writer.proofs.Appending.{last}
use Rattle.packed_writer.proofs.body.Body.number.Goals as goal

pub returns : goal.returns
returns c =
    let size = c.args.size in
    last c.digits.result c.digits.new.self (number_fixed c.args.most Little size c.args.number) (padding_fixed c.min.result) (λ (q : ℕ). octets Little size c.args.number) (λ p. rw c.min.ensures (number_parts c.args.most Little size c.args.number p)) c.in_ok-align.ensures c.digits.ensures
