use Rattle.std.proofs.Common.{◌≡◌, map, replicate, is_some, None, false}
use Rattle.std.specs.Option.{option_map}
use Rattle.type_trees.specs.View.{body_val}
use Rattle.try_construct.proofs.members.MemberSlots.new.Given as goal

abbrev pub invariant-loop : goal.invariant-loop
invariant-loop l = (map (option_map body_val) l.slots.items ≡ replicate l.counter None) × (map is_some l.slots.items ≡ replicate l.counter false)
