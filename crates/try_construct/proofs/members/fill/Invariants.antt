use Rattle.std.proofs.Common.{◌≡◌, drop, length, map, Some, [], false}
use Rattle.std.specs.Option.{option_map}
use Rattle.type_trees.specs.Bridge.{members_shape}
use Rattle.type_trees.specs.View.{body_val}
use Rattle.try_construct.specs.Members.{slots_of, filled_then}
use Rattle.try_construct.proofs.members.fill.Given as goal

-- The slots so far, and those that came of the members from here on.
abbrev pub invariant-loop-at : goal.invariant-loop-at
invariant-loop-at l = record {
  same : filled_then (members_shape (drop l.at l.members)) (slots_of l.slots) (map (option_map body_val) (drop l.at l.came)) ≡ filled_then (members_shape l.members) (Some [], false) (map (option_map body_val) l.fn.came);
  long : length l.came ≡ length l.members;
}
