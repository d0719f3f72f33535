use Rattle.std.proofs.Common.{◌≡◌, ◌-◌, ◌≤◌}
use Rattle.type_trees.specs.Bridge.{type_shape}
use Rattle.key_instances.specs.octets.Ends.{past, items_end}
use Rattle.key_instances.proofs.octets.lengths.end_of_items.Given as goal

abbrev pub invariant-loop : goal.invariant-loop
invariant-loop l = (l.at ≤ 17) × (past (items_end (type_shape l.ty) (l.count - l.counter) l.at) ≡ past (items_end (type_shape l.ty) l.count l.place))
