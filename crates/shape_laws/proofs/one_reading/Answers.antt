use Rattle.shape_laws.proofs.Theorems.{the_one_reading}
use Rattle.shape_laws.proofs.one_reading.Goals as goal

pub returns : goal.returns
returns c = the_one_reading
