use Rattle.std.proofs.Common.{arith, refl}
use Rattle.lookup_fetch.specs.Rounds.{found_in}
use Rattle.lookup_fetch.proofs.Planning.{plan_many, plan_whole, plan_ask, asking}
use Rattle.lookup_fetch.proofs.plan.plan.Goals as goal

pub returns-then-len-gt-MOST_MET-clause-plan : goal.returns-then-len-gt-MOST_MET-clause-plan
returns-then-len-gt-MOST_MET-clause-plan c = plan_many (found_in c.args.held.now) c.args.ids.now c.in_ok-met.met c.in_ok-met.ensures.met (omega (arith, c.len.ensures, c.if-len-gt-MOST_MET.true))

pub returns-in-Some-clause-plan : goal.returns-in-Some-clause-plan
returns-in-Some-clause-plan c = plan_whole (found_in c.args.held.now) c.args.ids.now c.in_ok-met.met _ _ c.in-Some.objects c.in_ok-met.ensures.met (omega (arith, c.len.ensures, c.if-len-gt-MOST_MET.false)) c.as_slice.ensures c.in_ok-objects.ensures.objects c.in-Some.is

pub returns-in-Some-clause-good : goal.returns-in-Some-clause-good
returns-in-Some-clause-good c = rw c.in-Some.is at c.in_ok-objects.ensures.own

pub returns-clause-plan : goal.returns-clause-plan
returns-clause-plan c = plan_ask (found_in c.args.held.now) c.args.ids.now c.in_ok-met.met _ _ c.in_ok-lacking-in-None.field-0 _ c.in_ok-met.ensures.met (omega (arith, c.len.ensures, c.if-len-gt-MOST_MET.false)) c.as_slice.ensures c.in_ok-objects.ensures.objects c.in-None.is c.as_slice-in-None.ensures c.in_ok-lacking-in-None.ensures.lacking

pub returns-clause-good : goal.returns-clause-good
returns-clause-good c = asking c.args.held.now c.in_ok-met.met _ c.in_ok-lacking-in-None.field-0 c.as_slice-in-None.ensures c.in_ok-lacking-in-None.ensures.lacking c.in_ok-met.ensures.kinds c.in_ok-lacking-in-None.ensures.few
