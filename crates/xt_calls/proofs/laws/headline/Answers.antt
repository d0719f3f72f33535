use Rattle.xt_calls.proofs.Ties.{headline}
use Rattle.xt_calls.proofs.laws.headline.Goals as goal

pub returns : goal.returns
returns c = headline c.shape_keeps_rules.ensures c.named_are_valid.ensures c.judged.ensures c.cross_sample.ensures
