use Rattle.object_walks.proofs.Freely.{tree_is_one}
use Rattle.object_walks.proofs.laws.tree_is_one.Goals as goal

pub returns : goal.returns
returns c = tree_is_one
