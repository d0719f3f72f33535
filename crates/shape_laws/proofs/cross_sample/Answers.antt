use Rattle.shape_laws.proofs.Theorems.{the_cross_sample}
use Rattle.shape_laws.proofs.cross_sample.Goals as goal

pub returns : goal.returns
returns c = the_cross_sample
