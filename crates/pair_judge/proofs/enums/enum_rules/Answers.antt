use Rattle.std.proofs.Common.{subst}
use Rattle.xcdr_model.specs.Failure.{First}
use Rattle.pair_judge.specs.Judged.{Says}
use Rattle.pair_judge.proofs.enums.enum_rules.Goals as goal

pub returns-clause-says : goal.returns-clause-says
returns-clause-says c = subst (λ (f : First). Says c.here.result f) c.enum_rule.ensures c.here.ensures.says
