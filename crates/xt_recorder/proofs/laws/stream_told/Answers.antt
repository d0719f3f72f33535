use Rattle.xt_recorder.proofs.StreamTexts.{told}
use Rattle.xt_recorder.proofs.laws.stream_told.Goals as goal

pub returns : goal.returns
returns c = told
