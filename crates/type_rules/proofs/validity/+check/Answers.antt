use Rattle.std.proofs.Common.{rules, ◌∙◌, sym, ap, arith, drop, ◌+◌}
use Rattle.xt_shapes.specs.Lists.{or_else}
use Rattle.type_rules.specs.Valid.{members_fault, cases_fault}
use Rattle.type_trees.specs.View.{members_tree, cases_tree}
use Rattle.type_rules.proofs.FaultLoops.{members_end, members_next, members_deeper, cases_end, cases_next, cases_deeper}
use Rattle.type_rules.proofs.validity.+check.Goals as goal

pub check_members-returns-in-Some-clause-value : goal.check_members-returns-in-Some-clause-value
check_members-returns-in-Some-clause-value t c =
    let next = members_next c.args.members.now c.loop-member.member-index c.member-item.result c.loop-member-test.true c.member-item.is in
    ap (λ o. or_else o (members_fault (members_tree (drop (c.loop-member.member-index + 1) c.args.members.now)))) c.in-Some.ensures.value ∙ sym next ∙ c.loop-member.invariant.0

pub check_members-returns-in-Some-clause-short : goal.check_members-returns-in-Some-clause-short
check_members-returns-in-Some-clause-short t c =
    let deeper = members_deeper c.args.members.now c.loop-member.member-index c.member-item.result c.loop-member-test.true c.member-item.is in
    omega (arith, deeper, c.in-Some.ensures.short, c.loop-member.invariant.1)

pub check_members-loop-member-preserved : goal.check_members-loop-member-preserved
check_members-loop-member-preserved t c =
    let next = members_next c.args.members.now c.loop-member.member-index c.member-item.result c.loop-member-test.true c.member-item.is in
    let deeper = members_deeper c.args.members.now c.loop-member.member-index c.member-item.result c.loop-member-test.true c.member-item.is in (
      ap (λ o. or_else o (members_fault (members_tree (drop (c.loop-member.member-index + 1) c.args.members.now)))) c.in_default.ensures.value ∙ sym next ∙ c.loop-member.invariant.0,
      omega (arith, deeper, c.loop-member.invariant.1),
    )

pub check_members-returns-clause-value : goal.check_members-returns-clause-value
check_members-returns-clause-value t c = sym (members_end c.args.members.now c.loop-member.member-index (search rules)) ∙ c.loop-member.invariant.0

pub check_cases-returns-in-Some-clause-value : goal.check_cases-returns-in-Some-clause-value
check_cases-returns-in-Some-clause-value t c =
    let next = cases_next c.args.cases.now c.loop-case.case-index c.case-item.result c.loop-case-test.true c.case-item.is in
    ap (λ o. or_else o (cases_fault (cases_tree (drop (c.loop-case.case-index + 1) c.args.cases.now)))) c.in-Some.ensures.value ∙ sym next ∙ c.loop-case.invariant.0

pub check_cases-returns-in-Some-clause-short : goal.check_cases-returns-in-Some-clause-short
check_cases-returns-in-Some-clause-short t c =
    let deeper = cases_deeper c.args.cases.now c.loop-case.case-index c.case-item.result c.loop-case-test.true c.case-item.is in
    omega (arith, deeper, c.in-Some.ensures.short, c.loop-case.invariant.1)

pub check_cases-loop-case-preserved : goal.check_cases-loop-case-preserved
check_cases-loop-case-preserved t c =
    let next = cases_next c.args.cases.now c.loop-case.case-index c.case-item.result c.loop-case-test.true c.case-item.is in
    let deeper = cases_deeper c.args.cases.now c.loop-case.case-index c.case-item.result c.loop-case-test.true c.case-item.is in (
      ap (λ o. or_else o (cases_fault (cases_tree (drop (c.loop-case.case-index + 1) c.args.cases.now)))) c.in_default.ensures.value ∙ sym next ∙ c.loop-case.invariant.0,
      omega (arith, deeper, c.loop-case.invariant.1),
    )

pub check_cases-returns-clause-value : goal.check_cases-returns-clause-value
check_cases-returns-clause-value t c = sym (cases_end c.args.cases.now c.loop-case.case-index (search rules)) ∙ c.loop-case.invariant.0
