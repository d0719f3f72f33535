use Rattle.type_rules.proofs.Kept.{limits_kept}
use Rattle.type_rules.proofs.laws.is_within_limits.Goals as goal

pub returns : goal.returns
returns c = limits_kept
