use Rattle.std.proofs.Common.{◌≡◌, ◌≤◌, ◌-◌, length, []}
use Rattle.type_registry.specs.Passed.{known, Grows}
use Rattle.lookup_service.specs.replies.Walks.{Tells, Leads}
use Rattle.lookup_service.proofs.replies.visits.visit.Given as goal

abbrev pub invariant-visits : goal.invariant-visits
invariant-visits g l = record {
  registry : l.pass.registry ≡ l.initial.pass.registry;
  few : length l.walk.seen ≤ 5120;
  tells : Tells (known l.pass) l.walk.tried l.walk.seen;
  leads : Leads (known l.pass) l.walk.tried 5120 [] l.ids (5120 - length l.walk.seen) l.walk.seen l.walk.todo;
  grows : Grows l.initial.pass l.pass;
}

abbrev pub decreases-visits : goal.decreases-visits
decreases-visits g l = 5120 - length l.walk.seen
