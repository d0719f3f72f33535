use Rattle.xt_recorder.proofs.Recorded.{refused}
use Rattle.xt_recorder.proofs.laws.recording_refused.Goals as goal

pub returns : goal.returns
returns c = refused
