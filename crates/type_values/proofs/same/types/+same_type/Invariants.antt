use Rattle.std.proofs.Common.{◌≡◌, take, map, length}
use Rattle.type_trees.specs.View.{member_tree, case_tree}
use Rattle.type_values.proofs.same.types.+same_type.Given as goal

abbrev pub invariant-are_same_members-loop-at : goal.invariant-are_same_members-loop-at
invariant-are_same_members-loop-at l = (map member_tree (take l.at l.left) ≡ map member_tree (take l.at l.right)) × (length l.left ≡ length l.right)

abbrev pub invariant-are_same_cases-loop-at : goal.invariant-are_same_cases-loop-at
invariant-are_same_cases-loop-at l = (map case_tree (take l.at l.left) ≡ map case_tree (take l.at l.right)) × (length l.left ≡ length l.right)
