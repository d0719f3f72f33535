use Rattle.xt_vectors.proofs.Sound.{read_projected}
use Rattle.xt_vectors.proofs.laws.read_is_projected.Goals as goal

pub returns : goal.returns
returns c = read_projected c.shape_keeps_rules.ensures c.judged.ensures c.sample_written.ensures c.cross_sample.ensures
