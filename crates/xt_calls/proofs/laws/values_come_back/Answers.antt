use Rattle.xt_calls.proofs.Ties.{values_come_back}
use Rattle.xt_calls.proofs.laws.values_come_back.Goals as goal

pub returns : goal.returns
returns c = values_come_back c.json_is_read.ensures c.numbers_come_back.ensures c.shape_keeps_rules.ensures c.sample_typed.ensures
