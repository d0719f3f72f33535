use Rattle.xt_io.proofs.Written.{are_read}
use Rattle.xt_io.proofs.laws.records_are_read.Goals as goal

pub returns : goal.returns
returns c = are_read
