use Rattle.xt_recorder.proofs.Telling.{passed}
use Rattle.xt_recorder.proofs.laws.no_passed.Goals as goal

pub returns : goal.returns
returns c = passed
