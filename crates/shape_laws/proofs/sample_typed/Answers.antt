use Rattle.shape_laws.proofs.Theorems.{the_sample_typed}
use Rattle.shape_laws.proofs.sample_typed.Goals as goal

pub returns : goal.returns
returns c = the_sample_typed
