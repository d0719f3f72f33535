use Rattle.xt_calls.proofs.Ties.{conversions_are_records}
use Rattle.xt_calls.proofs.laws.conversions_are_records.Goals as goal

pub returns : goal.returns
returns c = conversions_are_records
