use Rattle.shape_laws.proofs.Theorems.{the_cross_tail}
use Rattle.shape_laws.proofs.cross_tail.Goals as goal

pub returns : goal.returns
returns c = the_cross_tail
