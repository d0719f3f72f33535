use Rattle.std.proofs.Common.{◌≡◌, ◌≤◌, ◌-◌, length, []}
use Rattle.std.specs.List.{All}
use Rattle.type_lookup.specs.messages.Spelling.{IsKnownId}
use Rattle.lookup_fetch.specs.Rounds.{found_in}
use Rattle.lookup_fetch.proofs.Reaching.{reaching}
use Rattle.lookup_fetch.proofs.plan.reached.Given as goal

abbrev pub invariant-visits : goal.invariant-visits
invariant-visits l = record {
  few : length l.met ≤ 4097;
  tried : l.tried ≡ l.met;
  leads : reaching (found_in l.held) (4097 - length l.met) l.met l.todo ≡ reaching (found_in l.held) 4097 [] l.ids;
  kinds : All IsKnownId l.met;
  others : All IsKnownId l.todo;
}

abbrev pub decreases-visits : goal.decreases-visits
decreases-visits l = 4097 - length l.met
