use Rattle.type_values.proofs.OfSame.SideBySide.{told_labels}
use Rattle.type_values.proofs.same.leaves.are_same_labels.Goals as goal

pub returns : goal.returns
returns c = told_labels _ _ _ c.eq.ensures
