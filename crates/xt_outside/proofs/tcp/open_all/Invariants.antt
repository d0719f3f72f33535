use Rattle.std.proofs.Common.{◌≤◌, ◌+◌, ◌-◌, length}
use Rattle.std.specs.List.{All}
use Rattle.xt_outside.specs.Adapters.{IsFreshDoor}
use Rattle.xt_outside.proofs.tcp.open_all.Given as goal

-- The doors so far are fresh, and one at least is still to come.
abbrev pub invariant-others : goal.invariant-others
invariant-others l = record {
  count : length l.doors + 1 ≤ l.n;
  each : All IsFreshDoor l.doors;
}

abbrev pub decreases-others : goal.decreases-others
decreases-others l = l.n - length l.doors
