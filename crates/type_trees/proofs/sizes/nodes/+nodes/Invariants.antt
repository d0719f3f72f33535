use Rattle.std.proofs.Common.{◌≡◌, ◌+◌, ◌≤◌, min, drop}
use Rattle.type_trees.specs.View.{members_tree, cases_tree}
use Rattle.type_trees.specs.sizes.TypeNodes.{member_nodes, case_nodes}
use Rattle.type_trees.proofs.sizes.nodes.+nodes.Given as goal

abbrev pub invariant-capped_member_nodes-loop-member : goal.invariant-capped_member_nodes-loop-member
invariant-capped_member_nodes-loop-member l =
    (min 65537 (l.sum + member_nodes (members_tree (drop l.member-index l.members))) ≡ min 65537 (member_nodes (members_tree l.members))) × (l.sum ≤ 65537)

abbrev pub invariant-capped_case_nodes-loop-case : goal.invariant-capped_case_nodes-loop-case
invariant-capped_case_nodes-loop-case l =
    (min 65537 (l.sum + case_nodes (cases_tree (drop l.case-index l.cases))) ≡ min 65537 (case_nodes (cases_tree l.cases))) × (l.sum ≤ 65537)
