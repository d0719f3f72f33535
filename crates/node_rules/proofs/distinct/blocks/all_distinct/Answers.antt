use Rattle.std.proofs.Common.{rules, sym}
use Rattle.node_rules.proofs.OfDistinct.Appended.{repeated, joined, moved}
use Rattle.node_rules.proofs.distinct.blocks.all_distinct.Goals as goal

pub returns-then-is_among : goal.returns-then-is_among
returns-then-is_among g c =
    sym (repeated c.loop-turn.block.items (g.N.Numbers.left c.take_first.new.self) c.in-Some.number _ c.loop-turn.invariant.split c.in-Some.ensures c.as_slice.ensures.value c.if-is_among.ensures (search rules))

pub loop-turn-preserved : goal.loop-turn-preserved
loop-turn-preserved g c = record {
  split = moved c.loop-turn.block.items (g.N.Numbers.left c.take_first.new.self) c.in-Some.number _ c.loop-turn.invariant.split c.in-Some.ensures c.push.ensures.items (search rules);
  apart = joined _ _ c.loop-turn.invariant.apart c.as_slice.ensures.value c.if-is_among.ensures c.push.ensures.items (search rules);
  len = search rules;
}
