use Rattle.shape_laws.proofs.Theorems.{the_keys_cross}
use Rattle.shape_laws.proofs.keys_cross.Goals as goal

pub returns : goal.returns
returns c = the_keys_cross
