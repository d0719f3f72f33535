use Rattle.std.proofs.Common.{◌≡◌, drop}
use Rattle.type_trees.specs.Bridge.{members_shape, cases_shape}
use Rattle.packed_reader.specs.Plain.{may_all_be_packed, may_each_be_packed}
use Rattle.packed_reader.proofs.plain.+packable.Given as goal

abbrev pub invariant-may_all_be_packed-loop-member : goal.invariant-may_all_be_packed-loop-member
invariant-may_all_be_packed-loop-member l = may_all_be_packed l.unions (members_shape (drop l.member-index l.members)) ≡ may_all_be_packed l.unions (members_shape l.members)

abbrev pub invariant-may_each_be_packed-loop-case : goal.invariant-may_each_be_packed-loop-case
invariant-may_each_be_packed-loop-case l = may_each_be_packed l.unions (cases_shape (drop l.case-index l.cases)) ≡ may_each_be_packed l.unions (cases_shape l.cases)
