use Rattle.std.proofs.Common.{rules, sym, ◌∙◌, ◌≡◌, ◌<◌, length}
use Rattle.node_rules.proofs.OfDistinct.Appended.{none_left, covered}
use Rattle.node_rules.proofs.distinct.blocks.is_covered.Goals as goal

pub returns-then-is_empty-2 : goal.returns-then-is_empty-2
returns-then-is_empty-2 g c =
    let none : length c.fill_sorted.new.block.items ≡ 0 = search rules in
    let some : 0 < length c.loop-others.missing.items = search rules in
    none_left (g.M.Numbers.left c.loop-others.others) c.fill_sorted.new.block.items c.loop-others.missing.items c.fill_sorted.ensures.ends none some ∙ c.loop-others.invariant

pub loop-others-preserved : goal.loop-others-preserved
loop-others-preserved g c =
    rw (c.swap.ensures.x_after, c.keep_others.ensures, c.as_slice.ensures.value)
    (sym (covered c.loop-others.missing.items c.fill_sorted.ensures c.as_slice-in-loop-others.ensures.value) ∙ c.loop-others.invariant)
