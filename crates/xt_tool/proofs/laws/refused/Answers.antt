use Rattle.xt_tool.proofs.Headlines.{refused}
use Rattle.xt_tool.proofs.laws.refused.Goals as goal

pub returns : goal.returns
returns c = refused c.shape_keeps_rules.ensures c.named_are_valid.ensures c.exactly_one.ensures
