use Rattle.shape_laws.proofs.Theorems.{the_cross_key}
use Rattle.shape_laws.proofs.cross_key.Goals as goal

pub returns : goal.returns
returns c = the_cross_key
