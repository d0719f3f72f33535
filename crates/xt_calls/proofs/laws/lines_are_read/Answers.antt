use Rattle.xt_calls.proofs.Ties.{lines_are_read}
use Rattle.xt_calls.proofs.laws.lines_are_read.Goals as goal

pub returns : goal.returns
returns c = lines_are_read
