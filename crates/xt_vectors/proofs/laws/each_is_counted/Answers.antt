use Rattle.xt_vectors.proofs.Sound.{each_counted}
use Rattle.xt_vectors.proofs.laws.each_is_counted.Goals as goal

pub returns : goal.returns
returns c = each_counted
