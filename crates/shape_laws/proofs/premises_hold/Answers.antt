use Rattle.shape_laws.proofs.Theorems.{the_premises_hold}
use Rattle.shape_laws.proofs.premises_hold.Goals as goal

pub returns : goal.returns
returns c = the_premises_hold
