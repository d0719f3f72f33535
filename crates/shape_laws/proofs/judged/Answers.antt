use Rattle.shape_laws.proofs.Theorems.{the_judged}
use Rattle.shape_laws.proofs.judged.Goals as goal

pub returns : goal.returns
returns c = the_judged
