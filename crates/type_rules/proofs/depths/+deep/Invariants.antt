use Rattle.std.proofs.Common.{◌≡◌, drop}
use Rattle.type_rules.specs.Valid.{deep_members, deep_cases}
use Rattle.type_trees.specs.View.{members_tree, cases_tree}
use Rattle.type_rules.proofs.depths.+deep.Given as goal

abbrev pub invariant-deep_members-loop-member : goal.invariant-deep_members-loop-member
invariant-deep_members-loop-member l = deep_members l.levels (members_tree (drop l.member-index l.members)) ≡ deep_members l.levels (members_tree l.members)

abbrev pub invariant-deep_cases-loop-case : goal.invariant-deep_cases-loop-case
invariant-deep_cases-loop-case l = deep_cases l.levels (cases_tree (drop l.case-index l.cases)) ≡ deep_cases l.levels (cases_tree l.cases)
