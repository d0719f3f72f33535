use Rattle.shape_laws.proofs.Theorems.{the_self_projected}
use Rattle.shape_laws.proofs.self_projected.Goals as goal

pub returns : goal.returns
returns c = the_self_projected
