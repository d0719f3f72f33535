use Rattle.std.proofs.Common.{◌≡◌, ◌≤◌, ◌++◌, length, drop, filter, not}
use Rattle.type_object.specs.visits.Visits.{is_known}
use Rattle.lookup_fetch.specs.Rounds.{found_in}
use Rattle.lookup_fetch.proofs.plan.lacking.Given as goal

abbrev pub invariant-met : goal.invariant-met
invariant-met l = record {
  left : filter (λ id. not (is_known (found_in l.held) id)) l.met ≡ l.lacking ++ filter (λ id. not (is_known (found_in l.held) id)) (drop l.id-index l.met);
  few : length l.lacking ≤ 64;
}
