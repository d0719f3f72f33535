use Rattle.std.proofs.lemmas.Result.{err_from_is_err_and}
use Rattle.pair_memo.specs.nodes.Seen.{shape_in}
use Rattle.pair_judge.proofs.Fitting.{top_stops}
use Rattle.pair_judge.proofs.question.Question.top_rules.Goals as goal

pub returns-in_err-rule-clause-says : goal.returns-in_err-rule-clause-says
returns-in_err-rule-clause-says c =
    let p = err_from_is_err_and c.from_residual.result c.from_residual.ensures.1 in
    rw (p.1, p.2) (top_stops _ c.args.top (λ t. shape_in c.args.self.now.pool.now t) c.args.left.now c.args.right.now c.same_counted.result c.if-not-top.false c.same_counted.ensures c.in_err-rule.ensures.says)
