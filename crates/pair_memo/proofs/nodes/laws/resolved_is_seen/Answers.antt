use Rattle.pair_memo.proofs.OfNodes.Resolved.{resolved_seen}
use Rattle.pair_memo.proofs.nodes.laws.resolved_is_seen.Goals as goal

pub returns : goal.returns
returns c = resolved_seen
