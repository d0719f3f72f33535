use Rattle.std.proofs.Common.{◌≤◌, length}
use Rattle.dynamic_data.proofs.OfNumbers.MemberPlaces.{HoldsFrom}
use Rattle.dynamic_data.proofs.numbers.members.places_of.Given as goal

-- the members from there on are held
abbrev pub invariant-members : goal.invariant-members
invariant-members l = (l.at ≤ length l.members) × HoldsFrom l.at l.members l.places

abbrev pub decreases-members : goal.decreases-members
decreases-members l = l.at
