use Rattle.std.proofs.Common.{◌≤◌, ◌-◌, length}
use Rattle.type_registry.proofs.level.Level.boxed.Given as goal

abbrev pub invariant-cells : goal.invariant-cells
invariant-cells g l = length l.made.items ≤ l.count

abbrev pub decreases-cells : goal.decreases-cells
decreases-cells g l = l.count - length l.made.items
