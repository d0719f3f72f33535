use Rattle.shape_laws.proofs.Theorems.{the_read_typed}
use Rattle.shape_laws.proofs.read_typed.Goals as goal

pub returns : goal.returns
returns c = the_read_typed
