use Rattle.shape_laws.proofs.Theorems.{the_value_typed}
use Rattle.shape_laws.proofs.value_typed.Goals as goal

pub returns : goal.returns
returns c = the_value_typed
