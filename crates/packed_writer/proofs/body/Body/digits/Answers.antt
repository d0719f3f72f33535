use Rattle.std.proofs.Common.{ℕ, sym}
use Rattle.xt_shapes.specs.declared.leaves.Order.TheVariants.{Little}
use Rattle.xcdr_model.specs.Numbers.{octets}
use Rattle.packed_writer.proofs.Appending.{some_same}
use Rattle.packed_writer.proofs.body.Body.digits.Goals as goal

pub returns : goal.returns
returns c = some_same c.put.result c.args.self.now c.put.new.self (λ (p : ℕ). octets Little c.args.size c.args.number) _ (λ p. sym c.octets_of-octets.ensures) c.put.ensures
