use Rattle.std.proofs.Common.{◌≡◌, length, map}
use Rattle.type_rules.specs.Places.{depth, members_depth}
use Rattle.type_trees.specs.View.{tree, members_tree}
use Rattle.json_values.specs.Read.{value_of}
use Rattle.packed_reader.specs.View.{packed_val}
use Rattle.packed_json.specs.Tapes.{ItemsSoFar, MembersSoFar}
use Rattle.packed_json.proofs.tapes.parts.+read_part.Given as goal

abbrev pub invariant-read_items-loop-item : goal.invariant-read_items-loop-item
invariant-read_items-loop-item l = ItemsSoFar (value_of (tree l.ty)) (depth (tree l.ty)) l.part l.items (map packed_val l.values)

abbrev pub decreases-read_items-loop-item : goal.decreases-read_items-loop-item
decreases-read_items-loop-item l = length l.items

abbrev pub invariant-read_members-loop-key : goal.invariant-read_members-loop-key
invariant-read_members-loop-key l = record {
  so_far : MembersSoFar (members_tree l.members) (members_depth (members_tree l.members)) l.part l.rest l.slots;
  as_many : length l.slots ≡ length l.members;
}

abbrev pub decreases-read_members-loop-key : goal.decreases-read_members-loop-key
decreases-read_members-loop-key l = length l.rest
