use Rattle.xt_recorder.proofs.Called.{takes_are_replay}
use Rattle.xt_recorder.proofs.laws.takes_are_replay.Goals as goal

pub returns : goal.returns
returns c = takes_are_replay
