use Rattle.shape_laws.proofs.Theorems.{the_self_read}
use Rattle.shape_laws.proofs.self_read.Goals as goal

pub returns : goal.returns
returns c = the_self_read
