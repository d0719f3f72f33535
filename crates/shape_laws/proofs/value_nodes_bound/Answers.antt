use Rattle.shape_laws.proofs.Theorems.{the_value_nodes_bound}
use Rattle.shape_laws.proofs.value_nodes_bound.Goals as goal

pub returns : goal.returns
returns c = the_value_nodes_bound
