use Rattle.std.proofs.Common.{◌≡◌, length, not}
use Rattle.type_object.specs.References.{is_among}
use Rattle.type_object.specs.visits.Visits.{first_of}
use Rattle.lookup_fetch.proofs.plan.first_new.Given as goal

abbrev pub invariant-tries : goal.invariant-tries
invariant-tries l = first_of (λ id. not (is_among id l.tried)) l.todo ≡ first_of (λ id. not (is_among id l.tried)) l.initial.todo

abbrev pub decreases-tries : goal.decreases-tries
decreases-tries l = length l.todo
