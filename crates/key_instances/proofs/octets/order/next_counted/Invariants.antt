use Rattle.std.proofs.Common.{◌≡◌, ◌≤◌, length, drop}
use Rattle.type_trees.specs.Bridge.{members_shape}
use Rattle.key_instances.proofs.OfOctets.Least.{least}
use Rattle.key_instances.proofs.octets.order.next_counted.Given as goal

-- the members from there on were looked at
abbrev pub invariant-members : goal.invariant-members
invariant-members l = (l.at ≤ length l.members) × (l.next ≡ least l.keyed l.from l.at (members_shape (drop l.at l.members)))

abbrev pub decreases-members : goal.decreases-members
decreases-members l = l.at
