use Rattle.std.proofs.Common.{◌≡◌, ◌++◌, length, map, reverse}
use Rattle.tool_nets.proofs.serving.doors.doors_of.Given as goal

-- The doors that were taken out, backwards, stand behind those of the seats that are left.
abbrev pub invariant-seats : goal.invariant-seats
invariant-seats g l = map (λ seat. seat.door) l.initial.seats ≡ map (λ seat. seat.door) l.seats ++ reverse l.doors

abbrev pub decreases-seats : goal.decreases-seats
decreases-seats g l = length l.seats
