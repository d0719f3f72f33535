use Rattle.xt_calls.proofs.Ties.{writes_are_records}
use Rattle.xt_calls.proofs.laws.writes_are_records.Goals as goal

pub returns : goal.returns
returns c = writes_are_records
