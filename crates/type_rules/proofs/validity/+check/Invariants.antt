use Rattle.std.proofs.Common.{◌≡◌, ◌≤◌, drop}
use Rattle.type_rules.specs.Places.{members_depth, cases_depth}
use Rattle.type_rules.specs.Valid.{members_fault, cases_fault}
use Rattle.type_trees.specs.View.{members_tree, cases_tree}
use Rattle.type_rules.proofs.validity.+check.Given as goal

abbrev pub invariant-check_members-loop-member : goal.invariant-check_members-loop-member
invariant-check_members-loop-member l =
    (members_fault (members_tree (drop l.member-index l.members)) ≡ members_fault (members_tree l.members)) × (members_depth (members_tree (drop l.member-index l.members)) ≤ members_depth (members_tree l.members))

abbrev pub invariant-check_cases-loop-case : goal.invariant-check_cases-loop-case
invariant-check_cases-loop-case l =
    (cases_fault (cases_tree (drop l.case-index l.cases)) ≡ cases_fault (cases_tree l.cases)) × (cases_depth (cases_tree (drop l.case-index l.cases)) ≤ cases_depth (cases_tree l.cases))
