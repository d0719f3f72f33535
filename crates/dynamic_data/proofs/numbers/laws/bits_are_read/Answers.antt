use Rattle.dynamic_data.proofs.OfNumbers.Comes.{bits_back}
use Rattle.dynamic_data.proofs.numbers.laws.bits_are_read.Goals as goal

pub returns : goal.returns
returns c = bits_back
