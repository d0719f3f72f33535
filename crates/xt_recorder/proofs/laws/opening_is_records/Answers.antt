use Rattle.xt_recorder.proofs.Recorded.{opening_is_records}
use Rattle.xt_recorder.proofs.laws.opening_is_records.Goals as goal

pub returns : goal.returns
returns c = opening_is_records
