use Rattle.std.proofs.Common.{◌≡◌, ℕ, length}
use Rattle.type_registry.specs.Passed.{known, Grows}
use Rattle.lookup_service.specs.replies.Walks.{Tells, Leads, Further}
use Rattle.lookup_service.proofs.replies.visits.Walk.step.Given as goal

abbrev pub invariant-tries : goal.invariant-tries
invariant-tries g l = record {
  registry : l.pass.registry ≡ l.initial.pass.registry;
  seen : l.self.seen ≡ l.initial.self.seen;
  tells : Tells (known l.pass) l.self.tried l.self.seen;
  further : Further (known l.initial.pass) l.initial.self.tried (known l.pass) l.self.tried;
  leads : (n : ℕ) → Leads (known l.pass) l.self.tried n l.initial.self.seen l.initial.self.todo n l.self.seen l.self.todo;
  grows : Grows l.initial.pass l.pass;
}

abbrev pub decreases-tries : goal.decreases-tries
decreases-tries g l = length l.self.todo
