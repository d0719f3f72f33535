use Rattle.std.proofs.Common.{true, false, sym, ◌∙◌}
use Rattle.type_trees.specs.declared.values.Slot as s
use Rattle.dynamic_data.proofs.Reaching.{reach_past, reach_next}
use Rattle.dynamic_data.proofs.reach.+get.Goals as goal

pub get_member-returns-then-at-slots : goal.get_member-returns-then-at-slots
get_member-returns-then-at-slots t c =
    sym (reach_past c.args.members.now c.args.slots.now c.loop-at.at c.args.name.now c.args.names.now c.if-at-slots.true) ∙ c.loop-at.invariant

pub get_member-returns-then-is_named : goal.get_member-returns-then-is_named
get_member-returns-then-is_named t c =
    let step = rw (← c.index-slots-at.is) at (reach_next true c.args.members.now c.args.slots.now c.loop-at.at c.index-members-at.result c.index-slots-at.result c.args.name.now c.args.names.now c.loop-at-test.true c.if-at-slots.false c.index-members-at.is (sym c.if-is_named.true ∙ c.is_named.ensures)) in
    c.get_slot.ensures ∙ sym step ∙ c.loop-at.invariant

pub get_member-loop-at-preserved : goal.get_member-loop-at-preserved
get_member-loop-at-preserved t c =
    let step = reach_next false c.args.members.now c.args.slots.now c.loop-at.at c.index-members-at.result s.Absent c.args.name.now c.args.names.now c.loop-at-test.true c.if-at-slots.false c.index-members-at.is (sym c.if-is_named.false ∙ c.is_named.ensures) in
    sym step ∙ c.loop-at.invariant
