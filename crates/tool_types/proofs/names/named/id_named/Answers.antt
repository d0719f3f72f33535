use Rattle.type_trees.specs.View.{tree}
use Rattle.tool_types.proofs.OfNames.Identified.{has_type}
use Rattle.tool_types.proofs.names.named.id_named.Goals as goal

pub returns-clause-resolves : goal.returns-clause-resolves
returns-clause-resolves c = has_type c.args.pool.now c.in_ok-found.found.id (tree c.in_ok-found.found.ty) c.in_ok-found.ensures.found.back
