use Rattle.std.proofs.Common.{rules, ◌∙◌, sym, ap, drop, ◌+◌}
use Rattle.xt_shapes.specs.Lists.{or_else}
use Rattle.type_rules.specs.Valid.{deep_members, deep_cases}
use Rattle.type_trees.specs.View.{members_tree, cases_tree}
use Rattle.type_rules.proofs.DeepSteps.{deep_members_end, deep_members_next, deep_cases_end, deep_cases_next}
use Rattle.type_rules.proofs.depths.+deep.Goals as goal

pub deep_members-returns-in-Some-clause-value : goal.deep_members-returns-in-Some-clause-value
deep_members-returns-in-Some-clause-value t c =
    let next = deep_members_next c.args.levels c.args.members.now c.loop-member.member-index c.member-item.result c.loop-member-test.true c.member-item.is in
    ap (λ o. or_else o (deep_members c.args.levels (members_tree (drop (c.loop-member.member-index + 1) c.args.members.now)))) c.in-Some.ensures.value ∙ sym next ∙ c.loop-member.invariant

pub deep_members-loop-member-preserved : goal.deep_members-loop-member-preserved
deep_members-loop-member-preserved t c =
    let next = deep_members_next c.args.levels c.args.members.now c.loop-member.member-index c.member-item.result c.loop-member-test.true c.member-item.is in
    ap (λ o. or_else o (deep_members c.args.levels (members_tree (drop (c.loop-member.member-index + 1) c.args.members.now)))) c.in_default.ensures.value ∙ sym next ∙ c.loop-member.invariant

pub deep_members-returns-clause-value : goal.deep_members-returns-clause-value
deep_members-returns-clause-value t c = sym (deep_members_end c.args.levels c.args.members.now c.loop-member.member-index (search rules)) ∙ c.loop-member.invariant

pub deep_cases-returns-in-Some-clause-value : goal.deep_cases-returns-in-Some-clause-value
deep_cases-returns-in-Some-clause-value t c =
    let next = deep_cases_next c.args.levels c.args.cases.now c.loop-case.case-index c.case-item.result c.loop-case-test.true c.case-item.is in
    ap (λ o. or_else o (deep_cases c.args.levels (cases_tree (drop (c.loop-case.case-index + 1) c.args.cases.now)))) c.in-Some.ensures.value ∙ sym next ∙ c.loop-case.invariant

pub deep_cases-loop-case-preserved : goal.deep_cases-loop-case-preserved
deep_cases-loop-case-preserved t c =
    let next = deep_cases_next c.args.levels c.args.cases.now c.loop-case.case-index c.case-item.result c.loop-case-test.true c.case-item.is in
    ap (λ o. or_else o (deep_cases c.args.levels (cases_tree (drop (c.loop-case.case-index + 1) c.args.cases.now)))) c.in_default.ensures.value ∙ sym next ∙ c.loop-case.invariant

pub deep_cases-returns-clause-value : goal.deep_cases-returns-clause-value
deep_cases-returns-clause-value t c = sym (deep_cases_end c.args.levels c.args.cases.now c.loop-case.case-index (search rules)) ∙ c.loop-case.invariant
