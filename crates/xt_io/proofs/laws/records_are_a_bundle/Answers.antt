use Rattle.xt_io.proofs.Written.{are_whole}
use Rattle.xt_io.proofs.laws.records_are_a_bundle.Goals as goal

pub returns : goal.returns
returns c = are_whole
