use Rattle.pair_judge.proofs.Few.{few_steps}
use Rattle.pair_judge.proofs.judge.examined.Goals as goal

pub returns-clause-bound : goal.returns-clause-bound
returns-clause-bound g c =
    few_steps c.args.policy.now c.args.rep c.args.pool.now c.args.lefts.now c.args.rights.now c.args.id1.now c.args.id2.now _ _ _ _ c.new-memo.ensures c.first.ensures.so c.requires.lefts c.requires.rights c.first.ensures.count
