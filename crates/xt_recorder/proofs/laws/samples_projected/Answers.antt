use Rattle.xt_recorder.proofs.Telling.{projected}
use Rattle.xt_recorder.proofs.laws.samples_projected.Goals as goal

pub returns : goal.returns
returns c = projected c.shape_keeps_rules.ensures c.cross_sample.ensures
