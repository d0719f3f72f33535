use Rattle.shape_laws.proofs.Theorems.{the_cross}
use Rattle.shape_laws.proofs.cross.Goals as goal

pub returns : goal.returns
returns c = the_cross
