use Rattle.std.proofs.Common.{◌≡◌, drop}
use Rattle.type_trees.specs.View.{members_tree, cases_tree}
use Rattle.dynamic_data.specs.numbers.Kinds.{members_have_floats, cases_have_floats}
use Rattle.dynamic_data.proofs.numbers.kinds.+has_floats.Given as goal

abbrev pub invariant-members_have_floats-loop-member : goal.invariant-members_have_floats-loop-member
invariant-members_have_floats-loop-member l = members_have_floats (members_tree (drop l.member-index l.members)) ≡ members_have_floats (members_tree l.members)

abbrev pub invariant-cases_have_floats-loop-case : goal.invariant-cases_have_floats-loop-case
invariant-cases_have_floats-loop-case l = cases_have_floats (cases_tree (drop l.case-index l.cases)) ≡ cases_have_floats (cases_tree l.cases)
