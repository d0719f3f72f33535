use Rattle.std.proofs.Common.{◌∙◌, refl, sym, arith, rules}
use Rattle.std.specs.Option.{option_map}
use Rattle.type_trees.specs.Bridge.{type_shape, members_shape, cases_shape}
use Rattle.type_rules.proofs.FaultLoops.{members_deeper, cases_deeper}
use Rattle.xcdr_model.specs.Failure.{label_failure}
use Rattle.node_judge.proofs.Failing.{first_of_none}
use Rattle.assignability.proofs.FailureSteps.{index_step, index_end_left, index_end_right, id_step, id_end, case_found, case_passed, case_end, label_step, label_passed, label_end, label_met, label_met_by, default_met_by, label_tried, side_step, side_end, found_first, passed_first, short_within}
use Rattle.assignability.proofs.Heads.{label_is}
use Rattle.assignability.proofs.failures.+failure.Goals as goal

-- members by index
pub index_failure-returns-then-at-right-clause-value : goal.index_failure-returns-then-at-right-clause-value
index_failure-returns-then-at-right-clause-value t c = sym (index_end_right _ _ _ _ _ c.if-at-right.true) ∙ c.loop-at.invariant.0

pub index_failure-returns-in-Some-clause-value : goal.index_failure-returns-in-Some-clause-value
index_failure-returns-in-Some-clause-value t c =
    found_first _ _ _ _ _ c.in-Some.ensures.value (index_step _ _ _ _ _ _ _ c.loop-at-test.true c.if-at-right.false c.index-left-at.is c.index-right-at.is) c.loop-at.invariant.0

pub index_failure-returns-in-Some-clause-short : goal.index_failure-returns-in-Some-clause-short
index_failure-returns-in-Some-clause-short t c =
    let deeper = members_deeper c.args.left.now c.loop-at.at c.index-left-at.result c.loop-at-test.true c.index-left-at.is in omega (arith, deeper, c.in-Some.ensures.short, c.loop-at.invariant.1)

pub index_failure-loop-at-preserved : goal.index_failure-loop-at-preserved
index_failure-loop-at-preserved t c =
    let deeper = members_deeper c.args.left.now c.loop-at.at c.index-left-at.result c.loop-at-test.true c.index-left-at.is in (
      passed_first _ _ _ _ c.in_default.ensures.value (index_step _ _ _ _ _ _ _ c.loop-at-test.true c.if-at-right.false c.index-left-at.is c.index-right-at.is) c.loop-at.invariant.0,
      omega (arith, deeper, c.loop-at.invariant.1),
    )

pub index_failure-returns-clause-value : goal.index_failure-returns-clause-value
index_failure-returns-clause-value t c = sym (index_end_left _ _ _ _ _ c.loop-at-test.false) ∙ c.loop-at.invariant.0

-- members by id
pub id_failure-returns-in-Some-clause-value : goal.id_failure-returns-in-Some-clause-value
id_failure-returns-in-Some-clause-value t c =
    found_first _ _ _ _ _ c.in-Some.ensures.value (id_step _ _ _ _ _ _ c.loop-member-test.true c.member-item.is) c.loop-member.invariant.0

pub id_failure-returns-in-Some-clause-short : goal.id_failure-returns-in-Some-clause-short
id_failure-returns-in-Some-clause-short t c =
    let deeper = members_deeper c.args.left.now c.loop-member.member-index c.member-item.result c.loop-member-test.true c.member-item.is in omega (arith, deeper, c.in-Some.ensures.short, c.loop-member.invariant.1)

pub id_failure-loop-member-preserved : goal.id_failure-loop-member-preserved
id_failure-loop-member-preserved t c =
    let deeper = members_deeper c.args.left.now c.loop-member.member-index c.member-item.result c.loop-member-test.true c.member-item.is in (
      passed_first _ _ _ _ c.in_default.ensures.value (id_step _ _ _ _ _ _ c.loop-member-test.true c.member-item.is) c.loop-member.invariant.0,
      omega (arith, deeper, c.loop-member.invariant.1),
    )

pub id_failure-returns-clause-value : goal.id_failure-returns-clause-value
id_failure-returns-clause-value t c = sym (id_end c.args.policy.now c.args.rep c.args.left.now (members_shape c.args.right.now) c.loop-member.member-index (search rules)) ∙ c.loop-member.invariant.0

-- a case by its id
pub case_failure-returns-then-case-id-clause-value : goal.case_failure-returns-then-case-id-clause-value
case_failure-returns-then-case-id-clause-value t c =
    c.case_beneath.ensures.value ∙ sym (case_found _ _ _ _ _ _ _ c.loop-case-test.true c.case-item.is c.if-case-id.true) ∙ c.loop-case.invariant.0 _

pub case_failure-loop-case-preserved : goal.case_failure-loop-case-preserved
case_failure-loop-case-preserved t c =
    let deeper = cases_deeper c.args.left.now c.loop-case.case-index c.case-item.result c.loop-case-test.true c.case-item.is in (
      λ o. sym (case_passed _ _ _ _ o _ _ c.loop-case-test.true c.case-item.is c.if-case-id.false) ∙ c.loop-case.invariant.0 o,
      omega (arith, deeper, c.loop-case.invariant.1),
    )

pub case_failure-returns-then-case-id-clause-short : goal.case_failure-returns-then-case-id-clause-short
case_failure-returns-then-case-id-clause-short t c =
    let deeper = cases_deeper c.args.left.now c.loop-case.case-index c.case-item.result c.loop-case-test.true c.case-item.is in
    short_within _ _ _ c.case_beneath.ensures.short (omega (arith, deeper, c.loop-case.invariant.1))

pub case_failure-returns-clause-value : goal.case_failure-returns-clause-value
case_failure-returns-clause-value t c = sym (case_end c.args.policy.now c.args.rep c.args.left.now c.args.id (option_map (λ o. type_shape o.now.ty) c.args.other) c.loop-case.case-index (search rules)) ∙ c.loop-case.invariant.0 _

-- the cases of one side
pub side_failure-returns-in-Some-clause-value : goal.side_failure-returns-in-Some-clause-value
side_failure-returns-in-Some-clause-value t c =
    found_first _ _ _ _ _ (rw c.as_slice.ensures at c.in-Some.ensures.value) (side_step _ _ _ _ c.loop-case-test.true c.case-item.is) c.loop-case.invariant

pub side_failure-loop-case-preserved : goal.side_failure-loop-case-preserved
side_failure-loop-case-preserved t c =
    passed_first _ _ _ _ (rw c.as_slice.ensures at c.in_default.ensures.value) (side_step _ _ _ _ c.loop-case-test.true c.case-item.is) c.loop-case.invariant

pub side_failure-returns-clause-value : goal.side_failure-returns-clause-value
side_failure-returns-clause-value t c = sym (side_end (label_failure c.args.policy.now c.args.rep (cases_shape c.args.left.now) (cases_shape c.args.right.now)) c.args.side.now c.loop-case.case-index (search rules)) ∙ c.loop-case.invariant

-- labels
pub label_failure-returns-then-is_met-clause-value : goal.label_failure-returns-then-is_met-clause-value
label_failure-returns-then-is_met-clause-value t c =
    label_met c.args.policy.now c.args.rep (cases_shape c.args.left.now) (cases_shape c.args.right.now) c.args.before.now c.args.label _ _ c.requires.passed c.if-is_met.ensures (c.in-Some.ensures ∙ search rules) (c.in-Some-select.ensures ∙ search rules)

pub label_failure-returns-then-is_met_by-clause-value : goal.label_failure-returns-then-is_met_by-clause-value
label_failure-returns-then-is_met_by-clause-value t c =
    label_met_by c.args.policy.now c.args.rep (cases_shape c.args.left.now) (cases_shape c.args.right.now) (cases_shape c.args.tried.now) c.args.label _ _ _ c.requires.tried c.if-is_met_by.ensures (c.in-Some.ensures ∙ search rules) (c.in-Some-select.ensures ∙ search rules)

pub default_failure-returns-then-is_met_by-clause-value : goal.default_failure-returns-then-is_met_by-clause-value
default_failure-returns-then-is_met_by-clause-value t c =
    default_met_by c.args.policy.now c.args.rep (cases_shape c.args.left.now) (cases_shape c.args.right.now) (cases_shape c.args.right.now) _ _ _ c.requires.right c.if-is_met_by.ensures c.in-Some.ensures c.in-Some-default_case.ensures

pub default_failure-returns-then-is_met_by-2-clause-value : goal.default_failure-returns-then-is_met_by-2-clause-value
default_failure-returns-then-is_met_by-2-clause-value t c =
    default_met_by c.args.policy.now c.args.rep (cases_shape c.args.left.now) (cases_shape c.args.right.now) (cases_shape c.args.left.now) _ _ _ c.requires.left c.if-is_met_by-2.ensures c.in-Some.ensures c.in-Some-default_case.ensures

pub label_failure-returns-then-has_label-clause-value : goal.label_failure-returns-then-has_label-clause-value
label_failure-returns-then-has_label-clause-value t c =
    label_tried c.args.policy.now c.args.rep (cases_shape c.args.left.now) (cases_shape c.args.right.now) (cases_shape c.args.tried.now) _ c.args.label c.requires.tried (c.if-has_label.ensures ∙ label_is c.args.tried.now _) (search rules)

pub labels_failure-loop-label-init : goal.labels_failure-loop-label-init
labels_failure-loop-label-init t c = (refl, first_of_none _, refl)

pub labels_failure-returns-in-Some-clause-value : goal.labels_failure-returns-in-Some-clause-value
labels_failure-returns-in-Some-clause-value t c =
    found_first _ _ _ _ _ c.in-Some.ensures.value (label_step _ _ _ _ c.loop-label-test.true (search rules)) c.loop-label.invariant.0

pub labels_failure-loop-label-preserved : goal.labels_failure-loop-label-preserved
labels_failure-loop-label-preserved t c = (
  passed_first _ _ _ _ c.in_default.ensures.value (label_step _ _ _ _ c.loop-label-test.true (search rules)) c.loop-label.invariant.0,
  label_passed _ _ _ _ c.loop-label-test.true c.loop-label.invariant.1 c.in_default.ensures.value (search rules),
  search rules,
)

pub labels_failure-returns-clause-value : goal.labels_failure-returns-clause-value
labels_failure-returns-clause-value t c =
    sym (label_end (label_failure c.args.policy.now c.args.rep (cases_shape c.args.left.now) (cases_shape c.args.right.now)) c.args.labels.now c.loop-label.label-index (search rules)) ∙ c.loop-label.invariant.0
