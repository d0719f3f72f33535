use Rattle.pair_memo.proofs.OfNodes.Among.{arm_seen}
use Rattle.pair_memo.proofs.nodes.places.arm_at.Goals as goal

pub returns-then-arm-id-clause-seen : goal.returns-then-arm-id-clause-seen
returns-then-arm-id-clause-seen c = λ pool h. arm_seen pool c.args.arms.now c.loop-arm.arm-index c.arm-item.result c.loop-arm-test.true c.arm-item.is h
