use Rattle.std.proofs.Common.{◌∙◌}
use Rattle.node_rules.specs.distinct.InBlocks.{holds_one}
use Rattle.node_rules.proofs.OfDistinct.Appended.{not_all, still_all}
use Rattle.node_rules.proofs.distinct.blocks.all_among.Goals as goal

pub returns-then-not-is_covered : goal.returns-then-not-is_covered
returns-then-not-is_covered g c = not_all (holds_one (g.M.Numbers.left c.args.others)) (g.N.Numbers.left c.loop-others.numbers) c.fill.new.block.items (g.N.Numbers.left c.fill.new.numbers) c.fill.ensures.split c.if-not-is_covered.ensures ∙ c.loop-others.invariant

pub loop-others-preserved : goal.loop-others-preserved
loop-others-preserved g c = still_all (holds_one (g.M.Numbers.left c.args.others)) (g.N.Numbers.left c.loop-others.numbers) c.fill.new.block.items (g.N.Numbers.left c.fill.new.numbers) c.fill.ensures.split c.if-not-is_covered.ensures ∙ c.loop-others.invariant
