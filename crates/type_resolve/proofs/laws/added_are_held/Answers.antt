use Rattle.type_resolve.proofs.Kept.{added_are_held}
use Rattle.type_resolve.proofs.laws.added_are_held.Goals as goal

pub returns : goal.returns
returns c = added_are_held
