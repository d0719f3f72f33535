use Rattle.object_walks.proofs.Walked.{ids_none, walked_from}
use Rattle.object_walks.proofs.walk.walk_from.Goals as goal

pub returns : goal.returns
returns c = walked_from c.named.result c.args.pool.now c.args.id.now _ _ ids_none c.named.ensures
