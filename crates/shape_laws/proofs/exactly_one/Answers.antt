use Rattle.shape_laws.proofs.Theorems.{the_exactly_one}
use Rattle.shape_laws.proofs.exactly_one.Goals as goal

pub returns : goal.returns
returns c = the_exactly_one
