use Rattle.shape_laws.proofs.Theorems.{the_sample_nodes_bound}
use Rattle.shape_laws.proofs.sample_nodes_bound.Goals as goal

pub returns : goal.returns
returns c = the_sample_nodes_bound
