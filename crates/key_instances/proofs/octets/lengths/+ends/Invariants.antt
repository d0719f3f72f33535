use Rattle.std.proofs.Common.{◌≡◌, ◌≤◌, length}
use Rattle.type_trees.specs.Bridge.{members_shape}
use Rattle.xcdr_model.specs.KeyOctets.{key_types}
use Rattle.key_instances.specs.octets.Ends.{past, ends}
use Rattle.key_instances.proofs.OfOctets.From.{from}
use Rattle.key_instances.proofs.octets.lengths.+ends.Given as goal

abbrev pub invariant-end_of_counted-members : goal.invariant-end_of_counted-members
invariant-end_of_counted-members l =
    let types = key_types l.keyed (members_shape l.members) in
    (l.end ≤ 17) × (past (ends (from l.from types) l.end) ≡ past (ends types l.place))

abbrev pub decreases-end_of_counted-members : goal.decreases-end_of_counted-members
decreases-end_of_counted-members l = length (from l.from (key_types l.keyed (members_shape l.members)))
