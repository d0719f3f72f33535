use Rattle.std.proofs.Common.{◌≡◌, ◌+◌, ◌*◌, drop, length}
use Rattle.xcdr_model.specs.Failure.{index_failure, id_failure, label_failure, first_of, all_labels}
use Rattle.pair_judge.specs.Questions.{IsKept}
use Rattle.pair_memo.specs.nodes.Seen.{shape_in}
use Rattle.pair_memo.specs.nodes.Views.{parts_in, arms_in, bare_cases}
use Rattle.pair_judge.proofs.question.Question.+pairs.Given as goal

abbrev pub decreases-strong : goal.decreases-strong
decreases-strong g l = 40 * l.levels + 6

abbrev pub decreases-strong_named : goal.decreases-strong_named
decreases-strong_named g l = 40 * l.levels + 5

abbrev pub decreases-strong_rules : goal.decreases-strong_rules
decreases-strong_rules g l = 40 * l.levels + 4

abbrev pub decreases-plain : goal.decreases-plain
decreases-plain g l = 40 * l.levels + 3

abbrev pub decreases-plain_named : goal.decreases-plain_named
decreases-plain_named g l = 40 * l.levels + 2

abbrev pub decreases-nodes : goal.decreases-nodes
decreases-nodes g l = 40 * l.levels + 1

abbrev pub decreases-kinds : goal.decreases-kinds
decreases-kinds g l = 40 * l.levels + 40

abbrev pub decreases-structures : goal.decreases-structures
decreases-structures g l = 40 * l.levels + 30

abbrev pub decreases-structure_ends : goal.decreases-structure_ends
decreases-structure_ends g l = 40 * l.levels + 25

abbrev pub decreases-by_index : goal.decreases-by_index
decreases-by_index g l = 40 * l.levels + 20

abbrev pub decreases-pair : goal.decreases-pair
decreases-pair g l = 40 * l.levels + 15

abbrev pub decreases-by_id : goal.decreases-by_id
decreases-by_id g l = 40 * l.levels + 20

abbrev pub decreases-member : goal.decreases-member
decreases-member g l = 40 * l.levels + 15

abbrev pub decreases-strong_beneath : goal.decreases-strong_beneath
decreases-strong_beneath g l = 40 * l.levels + 10

abbrev pub decreases-plain_beneath : goal.decreases-plain_beneath
decreases-plain_beneath g l = 40 * l.levels + 10

abbrev pub decreases-cases : goal.decreases-cases
decreases-cases g l = 40 * l.levels + 30

abbrev pub decreases-by_side : goal.decreases-by_side
decreases-by_side g l = 40 * l.levels + 28

abbrev pub decreases-by_labels : goal.decreases-by_labels
decreases-by_labels g l = 40 * l.levels + 26

abbrev pub decreases-by_label : goal.decreases-by_label
decreases-by_label g l = 40 * l.levels + 24

abbrev pub decreases-defaults : goal.decreases-defaults
decreases-defaults g l = 40 * l.levels + 24

abbrev pub decreases-case : goal.decreases-case
decreases-case g l = 40 * l.levels + 22

abbrev pub invariant-by_index-loop-at : goal.invariant-by_index-loop-at
invariant-by_index-loop-at g l = record {
  rest : index_failure l.self.policy.now l.self.rep (parts_in (λ t. shape_in l.self.pool.now t) (drop l.at l.left)) (parts_in (λ t. shape_in l.self.pool.now t) (drop l.at l.right)) ≡ index_failure l.self.policy.now l.self.rep (parts_in (λ t. shape_in l.self.pool.now t) l.left) (parts_in (λ t. shape_in l.self.pool.now t) l.right);
  so : IsKept l.self l.memo;
  count : l.steps + length l.fn.memo ≡ l.fn.steps + length l.memo;
}

abbrev pub invariant-by_id-loop-part : goal.invariant-by_id-loop-part
invariant-by_id-loop-part g l = record {
  rest : id_failure l.self.policy.now l.self.rep (parts_in (λ t. shape_in l.self.pool.now t) (drop l.part-index l.left)) (parts_in (λ t. shape_in l.self.pool.now t) l.right) ≡ id_failure l.self.policy.now l.self.rep (parts_in (λ t. shape_in l.self.pool.now t) l.left) (parts_in (λ t. shape_in l.self.pool.now t) l.right);
  so : IsKept l.self l.memo;
  count : l.steps + length l.fn.memo ≡ l.fn.steps + length l.memo;
}

abbrev pub invariant-by_side-loop-arm : goal.invariant-by_side-loop-arm
invariant-by_side-loop-arm g l = record {
  rest : first_of (label_failure l.self.policy.now l.self.rep (arms_in (λ t. shape_in l.self.pool.now t) l.left) (arms_in (λ t. shape_in l.self.pool.now t) l.right)) (all_labels (bare_cases (drop l.arm-index l.side))) ≡ first_of (label_failure l.self.policy.now l.self.rep (arms_in (λ t. shape_in l.self.pool.now t) l.left) (arms_in (λ t. shape_in l.self.pool.now t) l.right)) (all_labels (bare_cases l.side));
  so : IsKept l.self l.memo;
  count : l.steps + length l.fn.memo ≡ l.fn.steps + length l.memo;
}

abbrev pub invariant-by_labels-loop-label : goal.invariant-by_labels-loop-label
invariant-by_labels-loop-label g l = record {
  rest : first_of (label_failure l.self.policy.now l.self.rep (arms_in (λ t. shape_in l.self.pool.now t) l.left) (arms_in (λ t. shape_in l.self.pool.now t) l.right)) (drop l.label-index l.labels) ≡ first_of (label_failure l.self.policy.now l.self.rep (arms_in (λ t. shape_in l.self.pool.now t) l.left) (arms_in (λ t. shape_in l.self.pool.now t) l.right)) l.labels;
  so : IsKept l.self l.memo;
  count : l.steps + length l.fn.memo ≡ l.fn.steps + length l.memo;
}

abbrev pub decreases-structure_pair : goal.decreases-structure_pair
decreases-structure_pair g l = 40 * l.levels + 35

abbrev pub decreases-union_pair : goal.decreases-union_pair
decreases-union_pair g l = 40 * l.levels + 35

abbrev pub decreases-unions : goal.decreases-unions
decreases-unions g l = 40 * l.levels + 32
