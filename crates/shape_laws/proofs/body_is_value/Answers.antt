use Rattle.shape_laws.proofs.Theorems.{the_body_is_value}
use Rattle.shape_laws.proofs.body_is_value.Goals as goal

pub returns : goal.returns
returns c = the_body_is_value
