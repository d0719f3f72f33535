use Rattle.pair_memo.proofs.Bound.{few}
use Rattle.pair_memo.proofs.laws.notes_are_few.Goals as goal

pub returns : goal.returns
returns c = few
