use Rattle.object_walks.proofs.Freely.{resolved_is_walked}
use Rattle.object_walks.proofs.laws.resolved_is_walked.Goals as goal

pub returns : goal.returns
returns c = resolved_is_walked
