use Rattle.dynamic_data.proofs.OfNumbers.WithoutFloats.{plain_shown}
use Rattle.dynamic_data.proofs.numbers.laws.plain_is_shown.Goals as goal

pub returns : goal.returns
returns c = plain_shown
