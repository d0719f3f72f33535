use Rattle.dynamic_data.proofs.OfNumbers.Written.{json_is_read}
use Rattle.dynamic_data.proofs.texts.json_is_read.Goals as goal

pub returns : goal.returns
returns c = json_is_read
