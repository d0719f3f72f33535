use Rattle.std.proofs.Common.{◌-◌, ◌≤◌, length}
use Rattle.settled_parts.proofs.literals.is_met.Given as goal

abbrev pub invariant-loop-low : goal.invariant-loop-low
invariant-loop-low l = l.high ≤ length l.literals

abbrev pub decreases-loop-low : goal.decreases-loop-low
decreases-loop-low l = l.high - l.low
