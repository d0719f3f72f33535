use Rattle.std.proofs.Common.{◌≡◌, take, map}
use Rattle.type_trees.specs.View.{member_tree, case_tree}
use Rattle.type_values.proofs.copies.+copy_type.Given as goal

abbrev pub invariant-copy_members-loop-member : goal.invariant-copy_members-loop-member
invariant-copy_members-loop-member l = map member_tree l.copy ≡ map member_tree (take l.member-index l.members)

abbrev pub invariant-copy_cases-loop-case : goal.invariant-copy_cases-loop-case
invariant-copy_cases-loop-case l = map case_tree l.copy ≡ map case_tree (take l.case-index l.case-items)
