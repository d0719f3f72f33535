use Rattle.shape_laws.proofs.Theorems.{the_size_same}
use Rattle.shape_laws.proofs.size_same.Goals as goal

pub returns : goal.returns
returns c = the_size_same
