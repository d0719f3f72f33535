use Rattle.shape_laws.proofs.Theorems.{the_nodes_bound}
use Rattle.shape_laws.proofs.nodes_bound.Goals as goal

pub returns : goal.returns
returns c = the_nodes_bound
