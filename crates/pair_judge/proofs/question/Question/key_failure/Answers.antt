use Rattle.std.proofs.Common.{rules}
use Rattle.std.proofs.lemmas.Result.{err_from_is_err_and}
use Rattle.pair_memo.specs.nodes.Seen.{shape_in}
use Rattle.pair_memo.proofs.OfNodes.Among.{part_seen}
use Rattle.pair_judge.proofs.Fitting.{key_stops, key_goes_on, key_done}
use Rattle.pair_judge.proofs.question.Question.key_failure.Goals as goal

pub key_rule-requires-clause-part : goal.key_rule-requires-clause-part
key_rule-requires-clause-part c = part_seen c.args.self.now.pool.now c.args.left.now c.loop-part.part-index c.part-item.result c.loop-part-test.true c.part-item.is c.requires.left

pub returns-in_err-key_rule-clause-says : goal.returns-in_err-key_rule-clause-says
returns-in_err-key_rule-clause-says c =
    let p = err_from_is_err_and c.from_residual.result c.from_residual.ensures.1 in
    rw (p.1, p.2) (key_stops _ (λ t. shape_in c.args.self.now.pool.now t) c.args.left.now c.args.right.now c.loop-part.part-index c.part-item.result c.loop-part-test.true c.part-item.is c.loop-part.invariant c.in_err-key_rule.ensures.says)

pub loop-part-preserved : goal.loop-part-preserved
loop-part-preserved c = key_goes_on (λ t. shape_in c.args.self.now.pool.now t) c.args.left.now c.args.right.now c.loop-part.part-index c.part-item.result c.loop-part-test.true c.part-item.is c.loop-part.invariant c.in_ok-key_rule.ensures.says

pub returns-clause-says : goal.returns-clause-says
returns-clause-says c = key_done (λ t. shape_in c.args.self.now.pool.now t) c.args.left.now c.args.right.now c.loop-part.part-index (search rules) c.loop-part.invariant
