use Rattle.std.proofs.Common.{◌≡◌, ℕ, ◌+◌, ◌∙◌, ap, map, subst, arith, rules}
use Rattle.std.proofs.lemmas.Result.{err_from_is_err_and}
use Rattle.object_formats.specs.View as view
use Rattle.xcdr_model.specs.Failure.{label_failure}
use Rattle.pair_judge.specs.Judged.{IsShort}
use Rattle.pair_memo.specs.nodes.Seen.{shape_in}
use Rattle.pair_memo.specs.nodes.Views.{part_view, arm_view, arms_in}
use Rattle.pair_memo.proofs.OfNodes.Among.{part_seen}
use Rattle.pair_judge.proofs.Paired.{structures_say, unions_say, index_stops, index_goes_on, index_left, index_right, id_stops, id_goes_on, id_done, side_stops, side_goes_on, side_done, label_stops, label_goes_on, label_done}
use Rattle.pair_judge.proofs.question.Question.+pairs.Goals as goal

pub structure_pair-returns-clause-says : goal.structure_pair-returns-clause-says
structure_pair-returns-clause-says g t c =
    structures_say c.structures.result c.args.self.now.policy.now c.args.self.now.rep c.args.top (λ t. shape_in c.args.self.now.pool.now t) c.args.ext c.args.other_ext c.as_slice-left.result.now c.as_slice-right.result.now _ _
    (ap (map part_view) c.as_slice-left.ensures ∙ c.in_ok-one.ensures) (ap (map part_view) c.as_slice-right.ensures ∙ c.in_ok-two.ensures) c.structures.ensures.says

pub union_pair-returns-clause-says : goal.union_pair-returns-clause-says
union_pair-returns-clause-says g t c =
    unions_say c.unions.result c.args.self.now.policy.now c.args.self.now.rep c.args.top (λ t. shape_in c.args.self.now.pool.now t) c.args.ext c.args.other_ext c.args.key c.args.other_key (shape_in c.args.self.now.pool.now (view.identifier c.args.disc.now)) (shape_in c.args.self.now.pool.now (view.identifier c.args.other.now)) c.as_slice-left.result.now c.as_slice-right.result.now _ _
    (ap (map arm_view) c.as_slice-left.ensures ∙ c.in_ok-one.ensures) (ap (map arm_view) c.as_slice-right.ensures ∙ c.in_ok-two.ensures) c.unions.ensures.says

pub strong_beneath-returns-clause-short : goal.strong_beneath-returns-clause-short
strong_beneath-returns-clause-short g t c =
    let e : (c.args.levels + 1) + 1 ≡ c.args.levels + 2 = omega arith in
    subst (λ (n : ℕ). IsShort n c.beneath.result) e (c.beneath.ensures.short (c.args.levels + 1) c.strong.ensures.short)

pub plain_beneath-returns-clause-short : goal.plain_beneath-returns-clause-short
plain_beneath-returns-clause-short g t c =
    let e : (c.args.levels + 1) + 1 ≡ c.args.levels + 2 = omega arith in
    subst (λ (n : ℕ). IsShort n c.beneath.result) e (c.beneath.ensures.short (c.args.levels + 1) c.plain.ensures.short)

-- members by index
pub by_index-pair-requires : goal.by_index-pair-requires
by_index-pair-requires g t c =
    let left = part_seen c.args.self.now.pool.now c.args.left.now c.loop-at.at c.index-left-at.result c.loop-at-test.true c.index-left-at.is c.requires.left in
    let right = part_seen c.args.self.now.pool.now c.args.right.now c.loop-at.at c.index-right-at.result c.if-at-right.false c.index-right-at.is c.requires.right in
    search rules

pub by_index-returns-in_err-pair-clause-says : goal.by_index-returns-in_err-pair-clause-says
by_index-returns-in_err-pair-clause-says g t c =
    let p = err_from_is_err_and c.from_residual.result c.from_residual.ensures.1 in
    rw (p.1, p.2) (index_stops c.args.self.now.policy.now c.args.self.now.rep (λ t. shape_in c.args.self.now.pool.now t) _ _ _ _ _ _ c.loop-at-test.true c.if-at-right.false c.index-left-at.is c.index-right-at.is c.loop-at.invariant.rest c.in_err-pair.ensures.says)

pub by_index-loop-at-preserved : goal.by_index-loop-at-preserved
by_index-loop-at-preserved g t c = record {
  rest = index_goes_on c.args.self.now.policy.now c.args.self.now.rep (λ t. shape_in c.args.self.now.pool.now t) _ _ _ _ _ c.loop-at-test.true c.if-at-right.false c.index-left-at.is c.index-right-at.is c.loop-at.invariant.rest c.in_ok-pair.ensures.says;
  so = c.in_ok-pair.ensures.so;
  count = omega (arith, c.in_ok-pair.ensures.count, c.loop-at.invariant.count);
}

pub by_index-returns-then-at-right-clause-says : goal.by_index-returns-then-at-right-clause-says
by_index-returns-then-at-right-clause-says g t c = index_right c.args.self.now.policy.now c.args.self.now.rep (λ t. shape_in c.args.self.now.pool.now t) _ _ _ c.if-at-right.true c.loop-at.invariant.rest

pub by_index-returns-clause-says : goal.by_index-returns-clause-says
by_index-returns-clause-says g t c = index_left c.args.self.now.policy.now c.args.self.now.rep (λ t. shape_in c.args.self.now.pool.now t) _ _ _ c.loop-at-test.false c.loop-at.invariant.rest

-- members by id
pub by_id-member-requires : goal.by_id-member-requires
by_id-member-requires g t c =
    let part = part_seen c.args.self.now.pool.now c.args.left.now c.loop-part.part-index c.part-item.result c.loop-part-test.true c.part-item.is c.requires.left in
    search rules

pub by_id-returns-in_err-member-clause-says : goal.by_id-returns-in_err-member-clause-says
by_id-returns-in_err-member-clause-says g t c =
    let p = err_from_is_err_and c.from_residual.result c.from_residual.ensures.1 in
    rw (p.1, p.2) (id_stops c.args.self.now.policy.now c.args.self.now.rep (λ t. shape_in c.args.self.now.pool.now t) _ _ _ _ _ c.loop-part-test.true c.part-item.is c.loop-part.invariant.rest c.in_err-member.ensures.says)

pub by_id-loop-part-preserved : goal.by_id-loop-part-preserved
by_id-loop-part-preserved g t c = record {
  rest = id_goes_on c.args.self.now.policy.now c.args.self.now.rep (λ t. shape_in c.args.self.now.pool.now t) _ _ _ _ c.loop-part-test.true c.part-item.is c.loop-part.invariant.rest c.in_ok-member.ensures.says;
  so = c.in_ok-member.ensures.so;
  count = omega (arith, c.in_ok-member.ensures.count, c.loop-part.invariant.count);
}

pub by_id-returns-clause-says : goal.by_id-returns-clause-says
by_id-returns-clause-says g t c = id_done c.args.self.now.policy.now c.args.self.now.rep (λ t. shape_in c.args.self.now.pool.now t) c.args.left.now c.args.right.now c.loop-part.part-index (search rules) c.loop-part.invariant.rest

-- cases by the labels of a side
pub by_side-returns-in_err-by_labels-clause-says : goal.by_side-returns-in_err-by_labels-clause-says
by_side-returns-in_err-by_labels-clause-says g t c =
    let p = err_from_is_err_and c.from_residual.result c.from_residual.ensures.1 in
    rw (p.1, p.2) (side_stops _ (label_failure c.args.self.now.policy.now c.args.self.now.rep (arms_in (λ t. shape_in c.args.self.now.pool.now t) c.args.left.now) (arms_in (λ t. shape_in c.args.self.now.pool.now t) c.args.right.now)) c.args.side.now c.loop-arm.arm-index c.arm-item.result c.loop-arm-test.true c.arm-item.is c.loop-arm.invariant.rest c.in_err-by_labels.ensures.says)

pub by_side-loop-arm-preserved : goal.by_side-loop-arm-preserved
by_side-loop-arm-preserved g t c = record {
  rest = side_goes_on (label_failure c.args.self.now.policy.now c.args.self.now.rep (arms_in (λ t. shape_in c.args.self.now.pool.now t) c.args.left.now) (arms_in (λ t. shape_in c.args.self.now.pool.now t) c.args.right.now)) c.args.side.now c.loop-arm.arm-index c.arm-item.result c.loop-arm-test.true c.arm-item.is c.loop-arm.invariant.rest c.in_ok-by_labels.ensures.says;
  so = c.in_ok-by_labels.ensures.so;
  count = omega (arith, c.in_ok-by_labels.ensures.count, c.loop-arm.invariant.count);
}

pub by_side-returns-clause-says : goal.by_side-returns-clause-says
by_side-returns-clause-says g t c = side_done (label_failure c.args.self.now.policy.now c.args.self.now.rep (arms_in (λ t. shape_in c.args.self.now.pool.now t) c.args.left.now) (arms_in (λ t. shape_in c.args.self.now.pool.now t) c.args.right.now)) c.args.side.now c.loop-arm.arm-index (search rules) c.loop-arm.invariant.rest

pub by_labels-returns-in_err-by_label-clause-says : goal.by_labels-returns-in_err-by_label-clause-says
by_labels-returns-in_err-by_label-clause-says g t c =
    let p = err_from_is_err_and c.from_residual.result c.from_residual.ensures.1 in
    rw (p.1, p.2) (label_stops _ (label_failure c.args.self.now.policy.now c.args.self.now.rep (arms_in (λ t. shape_in c.args.self.now.pool.now t) c.args.left.now) (arms_in (λ t. shape_in c.args.self.now.pool.now t) c.args.right.now)) c.args.labels.now c.loop-label.label-index _ c.loop-label-test.true (search rules) c.loop-label.invariant.rest c.in_err-by_label.ensures.says)

pub by_labels-loop-label-preserved : goal.by_labels-loop-label-preserved
by_labels-loop-label-preserved g t c = record {
  rest = label_goes_on (label_failure c.args.self.now.policy.now c.args.self.now.rep (arms_in (λ t. shape_in c.args.self.now.pool.now t) c.args.left.now) (arms_in (λ t. shape_in c.args.self.now.pool.now t) c.args.right.now)) c.args.labels.now c.loop-label.label-index _ c.loop-label-test.true (search rules) c.loop-label.invariant.rest c.in_ok-by_label.ensures.says;
  so = c.in_ok-by_label.ensures.so;
  count = omega (arith, c.in_ok-by_label.ensures.count, c.loop-label.invariant.count);
}

pub by_labels-returns-clause-says : goal.by_labels-returns-clause-says
by_labels-returns-clause-says g t c = label_done (label_failure c.args.self.now.policy.now c.args.self.now.rep (arms_in (λ t. shape_in c.args.self.now.pool.now t) c.args.left.now) (arms_in (λ t. shape_in c.args.self.now.pool.now t) c.args.right.now)) c.args.labels.now c.loop-label.label-index (search rules) c.loop-label.invariant.rest
