use Rattle.pair_memo.proofs.OfNodes.Among.{part_seen}
use Rattle.pair_memo.proofs.nodes.places.part_at.Goals as goal

pub returns-then-part-id-clause-seen : goal.returns-then-part-id-clause-seen
returns-then-part-id-clause-seen c = λ pool h. part_seen pool c.args.parts.now c.loop-part.part-index c.part-item.result c.loop-part-test.true c.part-item.is h
