use Rattle.std.proofs.Common.{arith}
use Rattle.type_object.proofs.Noted.{cases_step}
use Rattle.type_object.proofs.gathering.gather_cases.Goals as goal

pub loop-case-preserved : goal.loop-case-preserved
loop-case-preserved c = cases_step c.args.cases.now c.loop-case.case-index c.case-item.result _ _ _ (omega (arith, c.loop-case-test.true)) c.case-item.is c.in_ok-gather_in.ensures c.loop-case.invariant
