use Rattle.shape_laws.proofs.Theorems.{the_default_typed}
use Rattle.shape_laws.proofs.default_typed.Goals as goal

pub returns : goal.returns
returns c = the_default_typed
