use Rattle.std.proofs.Common.{◌≡◌, ◌≤◌, ◌++◌, length, drop, reverse}
use Rattle.type_object.proofs.visits.todo.push_reversed.Given as goal

abbrev pub invariant-back : goal.invariant-back
invariant-back l = record {
  within : l.i ≤ length l.ids;
  pushed : l.list.items ≡ l.initial.list.items ++ reverse (drop l.i l.ids);
}

abbrev pub decreases-back : goal.decreases-back
decreases-back l = l.i
