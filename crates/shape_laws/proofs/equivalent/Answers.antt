use Rattle.shape_laws.proofs.Theorems.{the_equivalent}
use Rattle.shape_laws.proofs.equivalent.Goals as goal

pub returns : goal.returns
returns c = the_equivalent
