use Rattle.type_trees.specs.View.{tree}
use Rattle.tool_types.proofs.OfNames.Soundness.{resolved_valid}
use Rattle.tool_types.proofs.names.named.type_resolved.Goals as goal

pub returns-in-Ok-clause-valid : goal.returns-in-Ok-clause-valid
returns-in-Ok-clause-valid c = resolved_valid c.args.pool.now c.args.id (tree c.in-Ok.ty) c.in-Ok.ensures.ok
