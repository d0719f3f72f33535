use Rattle.std.proofs.Common.{◌∙◌, sym, true, false}
use Rattle.node_rules.proofs.OfDistinct.Appended.{behind}
use Rattle.node_rules.proofs.distinct.blocks.many_distinct.Goals as goal

pub returns-then-meets : goal.returns-then-meets
returns-then-meets g c = sym (behind true c.if-not-fill_apart.ensures c.as_slice.ensures.value c.if-meets.ensures) ∙ c.loop-numbers.invariant

pub loop-numbers-preserved : goal.loop-numbers-preserved
loop-numbers-preserved g c = sym (behind false c.if-not-fill_apart.ensures c.as_slice.ensures.value c.if-meets.ensures) ∙ c.loop-numbers.invariant
