use Rattle.shape_laws.proofs.Theorems.{the_sample_written}
use Rattle.shape_laws.proofs.sample_written.Goals as goal

pub returns : goal.returns
returns c = the_sample_written
