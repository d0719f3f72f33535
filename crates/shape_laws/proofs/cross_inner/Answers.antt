use Rattle.shape_laws.proofs.Theorems.{the_cross_inner}
use Rattle.shape_laws.proofs.cross_inner.Goals as goal

pub returns : goal.returns
returns c = the_cross_inner
