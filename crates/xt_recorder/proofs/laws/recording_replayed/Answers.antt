use Rattle.xt_recorder.proofs.Recorded.{replayed}
use Rattle.xt_recorder.proofs.laws.recording_replayed.Goals as goal

pub returns : goal.returns
returns c = replayed c.shape_keeps_rules.ensures c.judged.ensures c.cross_sample.ensures
