use Rattle.std.proofs.Common.{◌≡◌, ◌+◌, ◌*◌, drop, length}
use Rattle.xt_shapes.specs.Lists.{all}
use Rattle.pair_judge.specs.Questions.{IsKept}
use Rattle.pair_memo.specs.nodes.Seen.{shape_in}
use Rattle.pair_judge.specs.Beside.{pairs, same_pair}
use Rattle.pair_judge.proofs.question.Question.+equal.Given as goal

abbrev pub decreases-same : goal.decreases-same
decreases-same g l = 10 * l.levels + 2

abbrev pub decreases-same_named : goal.decreases-same_named
decreases-same_named g l = 10 * l.levels + 1

abbrev pub decreases-same_nodes : goal.decreases-same_nodes
decreases-same_nodes g l = 10 * l.levels

abbrev pub decreases-same_kinds : goal.decreases-same_kinds
decreases-same_kinds g l = 10 * l.levels + 9

abbrev pub decreases-same_branches : goal.decreases-same_branches
decreases-same_branches g l = 10 * l.levels + 3

abbrev pub invariant-same_branches-loop-at : goal.invariant-same_branches-loop-at
invariant-same_branches-loop-at g l = record {
  same : all (same_pair (λ t. shape_in l.self.pool.now t)) (drop l.at (pairs l.branches)) ≡ all (same_pair (λ t. shape_in l.self.pool.now t)) (pairs l.branches);
  so : IsKept l.self l.memo;
  count : l.steps + length l.fn.memo ≡ l.fn.steps + length l.memo;
}

abbrev pub decreases-same_structures : goal.decreases-same_structures
decreases-same_structures g l = 10 * l.levels + 5

abbrev pub decreases-same_unions : goal.decreases-same_unions
decreases-same_unions g l = 10 * l.levels + 5
