use Rattle.std.proofs.Common.{drop, ◌+◌, sym, ap, ◌∙◌}
use Rattle.type_trees.specs.View.{members_tree, slots_val}
use Rattle.json_values.specs.Order.{entries_data}
use Rattle.json_values.specs.Written.{slots_data}
use Rattle.json_values.proofs.Order.{order_next}
use Rattle.json_values.proofs.write.order_of.Goals as goal

pub loop-at-preserved : goal.loop-at-preserved
loop-at-preserved c =
    let ms = c.args.members.now in
    let ss = c.args.slots.now in
    let next = order_next ms ss c.loop-at.at (entries_data ms ss c.loop-at.order.entries) c.loop-at-test.true in
    ap (slots_data (members_tree (drop (c.loop-at.at + 1) ms)) (slots_val (drop (c.loop-at.at + 1) ss))) c.in_ok-put_name.ensures ∙ sym next ∙ c.loop-at.invariant
