use Rattle.type_mirror.proofs.OfPairs.Sides.{keeps, clashes, union}
use Rattle.type_mirror.proofs.pairs.laws.pairs_agree.Goals as goal

pub returns-clause-keeps : goal.returns-clause-keeps
returns-clause-keeps c = keeps

pub returns-clause-clashes : goal.returns-clause-clashes
returns-clause-clashes c = clashes

pub returns-clause-union : goal.returns-clause-union
returns-clause-union c = union
