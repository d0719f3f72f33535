use Rattle.shape_laws.proofs.Theorems.{the_projection_typed}
use Rattle.shape_laws.proofs.projection_typed.Goals as goal

pub returns : goal.returns
returns c = the_projection_typed
