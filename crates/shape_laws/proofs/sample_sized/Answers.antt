use Rattle.shape_laws.proofs.Theorems.{the_sample_sized}
use Rattle.shape_laws.proofs.sample_sized.Goals as goal

pub returns : goal.returns
returns c = the_sample_sized
