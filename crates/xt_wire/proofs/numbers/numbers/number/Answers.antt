use Rattle.std.proofs.Common.{refl, ◌∙◌}
use Rattle.xcdr_model.specs.Numbers.{number}
use Rattle.xt_wire.proofs.OfNumbers.Orders.{low_is, high_is}
use Rattle.xt_wire.proofs.numbers.numbers.number.Goals as goal

pub returns-in-Big-clause-value : goal.returns-in-Big-clause-value
unfolding number
returns-in-Big-clause-value c = rw c.in-Big.is (c.number_in.ensures.value ∙ high_is _ c.args.octets.now refl)

pub returns-in-Little-clause-value : goal.returns-in-Little-clause-value
unfolding number
returns-in-Little-clause-value c = rw c.in-Little.is (c.number_in-in-Little.ensures.value ∙ low_is _ c.args.octets.now refl)
