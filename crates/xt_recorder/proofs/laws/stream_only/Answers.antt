use Rattle.xt_recorder.proofs.StreamTexts.{only}
use Rattle.xt_recorder.proofs.laws.stream_only.Goals as goal

pub returns : goal.returns
returns c = only
