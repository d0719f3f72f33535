use Rattle.std.proofs.Common.{◌≡◌, drop}
use Rattle.xcdr_model.specs.Failure.{key_failure}
use Rattle.pair_memo.specs.nodes.Seen.{shape_in}
use Rattle.pair_memo.specs.nodes.Views.{parts_in}
use Rattle.pair_judge.proofs.question.Question.key_failure.Given as goal

abbrev pub invariant-loop-part : goal.invariant-loop-part
invariant-loop-part l = key_failure (parts_in (λ t. shape_in l.self.pool.now t) (drop l.part-index l.left)) (parts_in (λ t. shape_in l.self.pool.now t) l.right) ≡ key_failure (parts_in (λ t. shape_in l.self.pool.now t) l.left) (parts_in (λ t. shape_in l.self.pool.now t) l.right)
