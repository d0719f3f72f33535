use Rattle.assignability.proofs.YesSteps.{yes_is}
use Rattle.assignability.proofs.verdicts.judge_under.Goals as goal

pub returns-in-None-clause-yes : goal.returns-in-None-clause-yes
returns-in-None-clause-yes c = yes_is _ _ _ _ _ c.in-None.ensures

pub returns-in-Some-clause-yes : goal.returns-in-Some-clause-yes
returns-in-Some-clause-yes c = yes_is _ _ _ _ _ c.in-Some.ensures
