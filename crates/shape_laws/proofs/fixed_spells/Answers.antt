use Rattle.shape_laws.proofs.Theorems.{the_fixed_spells}
use Rattle.shape_laws.proofs.fixed_spells.Goals as goal

pub returns : goal.returns
returns c = the_fixed_spells
