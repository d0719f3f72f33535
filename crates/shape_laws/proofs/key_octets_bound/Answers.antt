use Rattle.shape_laws.proofs.Theorems.{the_key_octets_bound}
use Rattle.shape_laws.proofs.key_octets_bound.Goals as goal

pub returns : goal.returns
returns c = the_key_octets_bound
