use Rattle.pair_judge.proofs.Verdicts.{verdicts}
use Rattle.pair_judge.proofs.judge.judge_pairs_under.Goals as goal

pub returns-clause-verdict : goal.returns-clause-verdict
returns-clause-verdict g c =
    verdicts c.args.policy.now c.args.rep c.args.pool.now c.args.id1.now c.args.id2.now c.examined.result c.verdict_of.result c.verdict_of.ensures c.examined.ensures.says
