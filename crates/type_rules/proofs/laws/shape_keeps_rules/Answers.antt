use Rattle.type_rules.proofs.Kept.{rules_kept}
use Rattle.type_rules.proofs.laws.shape_keeps_rules.Goals as goal

pub returns : goal.returns
returns c = rules_kept
