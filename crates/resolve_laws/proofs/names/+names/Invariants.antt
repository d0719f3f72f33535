use Rattle.std.proofs.Common.{◌≡◌, ◌&&◌, drop}
use Rattle.type_trees.specs.View.{members_tree, cases_tree}
use Rattle.resolve_laws.specs.Named.{are_named, cases_named, members_fit, cases_fit}
use Rattle.resolve_laws.proofs.names.+names.Given as goal

abbrev pub invariant-members_named-loop-member : goal.invariant-members_named-loop-member
invariant-members_named-loop-member l =
    ((l.named && are_named (members_tree (drop l.member-index l.members))) ≡ are_named (members_tree l.members)) × (members_fit (members_tree (drop l.member-index l.members)) ≡ members_fit (members_tree l.members))

abbrev pub invariant-cases_named-loop-case : goal.invariant-cases_named-loop-case
invariant-cases_named-loop-case l =
    ((l.named && cases_named (cases_tree (drop l.case-index l.cases))) ≡ cases_named (cases_tree l.cases)) × (cases_fit (cases_tree (drop l.case-index l.cases)) ≡ cases_fit (cases_tree l.cases))
