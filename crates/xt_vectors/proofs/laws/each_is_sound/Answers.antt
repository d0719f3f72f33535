use Rattle.xt_vectors.proofs.Sound.{each_sound}
use Rattle.xt_vectors.proofs.laws.each_is_sound.Goals as goal

pub returns : goal.returns
returns c = each_sound
