use Rattle.dynamic_data.proofs.OfNumbers.FloatFacts.{finite_is_no_nan}
use Rattle.dynamic_data.proofs.numbers.singles.digits_of.Goals as goal

pub float_to_bits-float : goal.float_to_bits-float
float_to_bits-float c = finite_is_no_nan c.args.float c.requires
