use Rattle.std.proofs.Common.{◌∙◌, arith}
use Rattle.type_registry.specs.Passed.{known}
use Rattle.lookup_service.proofs.OfReplies.Putting.{grows_then}
use Rattle.lookup_service.proofs.OfReplies.Walking.{round_step, last_met, all_met}
use Rattle.lookup_service.proofs.replies.visits.visit.Goals as goal

pub visits-preserved : goal.visits-preserved
visits-preserved g c = let i = c.visits.invariant in let s = c.in_ok-step.ensures in let yes = c.if-not-branch.false in record {
  registry = s.grows.registry ∙ i.registry;
  few = omega (arith, s.one yes, c.visits-test.true, c.len.ensures);
  tells = s.tells;
  leads = round_step (known c.visits.pass) (known c.step.new.pass) c.visits.walk.tried c.step.new.self.tried c.args.ids.now c.visits.walk.seen c.visits.walk.todo c.step.new.self.seen c.step.new.self.todo (omega (arith, c.visits-test.true, c.len.ensures)) (s.one yes) s.further i.leads (s.visits yes);
  grows = grows_then _ _ _ i.grows s.grows;
}

pub returns-then-not-branch-clause-met : goal.returns-then-not-branch-clause-met
returns-then-not-branch-clause-met g c = let i = c.visits.invariant in let s = c.in_ok-step.ensures in last_met (known c.visits.pass) (known c.step.new.pass) c.visits.walk.tried c.step.new.self.tried c.args.ids.now c.visits.walk.seen c.visits.walk.todo c.step.new.self.seen c.step.new.self.todo s.further i.leads (s.none c.if-not-branch.true)

pub returns-then-not-branch-clause-grows : goal.returns-then-not-branch-clause-grows
returns-then-not-branch-clause-grows g c = grows_then _ _ _ c.visits.invariant.grows c.in_ok-step.ensures.grows

pub returns-clause-met : goal.returns-clause-met
returns-clause-met g c = all_met (known c.visits.pass) c.visits.walk.tried c.args.ids.now c.visits.walk.seen c.visits.walk.todo _ (omega (arith, c.visits-test.false, c.len.ensures)) c.visits.invariant.leads
