use Rattle.xt_recorder.proofs.Reached.{closed_is_reached}
use Rattle.xt_recorder.proofs.laws.closed_is_reached.Goals as goal

pub returns : goal.returns
returns c = closed_is_reached
