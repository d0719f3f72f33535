use Rattle.shape_laws.proofs.Theorems.{the_judged_nested}
use Rattle.shape_laws.proofs.judged_nested.Goals as goal

pub returns : goal.returns
returns c = the_judged_nested
