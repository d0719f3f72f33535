use Rattle.dynamic_data.proofs.OfNumbers.Comes.{numbers_back}
use Rattle.dynamic_data.proofs.numbers.laws.numbers_come_back.Goals as goal

pub returns : goal.returns
returns c = numbers_back
