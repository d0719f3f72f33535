use Rattle.xt_tool.proofs.Complete.{completeness}
use Rattle.xt_tool.proofs.laws.complete.Goals as goal

pub returns : goal.returns
returns c = completeness c.shape_keeps_rules.ensures c.named_are_valid.ensures c.judged.ensures c.exactly_one.ensures c.keeps_last.ensures
