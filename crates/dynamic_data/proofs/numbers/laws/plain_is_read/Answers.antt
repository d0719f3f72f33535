use Rattle.dynamic_data.proofs.OfNumbers.WithoutFloats.{plain_read}
use Rattle.dynamic_data.proofs.numbers.laws.plain_is_read.Goals as goal

pub returns : goal.returns
returns c = plain_read
