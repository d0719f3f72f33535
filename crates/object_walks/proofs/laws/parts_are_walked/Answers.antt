use Rattle.object_walks.proofs.Freely.{parts_are_walked}
use Rattle.object_walks.proofs.laws.parts_are_walked.Goals as goal

pub returns : goal.returns
returns c = parts_are_walked
