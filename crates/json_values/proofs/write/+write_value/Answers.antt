use Rattle.std.proofs.Common.{rules}
use denote.Param.Weighed.{at_most}
use Rattle.type_trees.proofs.types.Member.TheLaws as member_laws
use Rattle.json_values.proofs.Order.{members_named, at_present, at_members_past, at_slots_past}
use Rattle.json_values.proofs.write.+write_value.Goals as goal
use Rattle.json_values.proofs.write.+write_value.Goals.{write_at-else-at-members-via-then-at-members+else-at-slots, write_at-else-at-members-via-else-at-members}

pub write_at-write_slot-requires : goal.write_at-write_slot-requires
write_at-write_slot-requires t c =
    let within = c.if-at-members.true in
    let named = members_named c.args.members.now c.args.at c.index-members-at.result within c.index-members-at.is c.requires in
    let smaller = rw (← c.index-members-at.is) at (at_most member_laws.the_size c.args.members.now c.args.at c.index-members-at.result within) in
    search rules

pub write_at-returns-then-at-slots-clause-ok : goal.write_at-returns-then-at-slots-clause-ok
write_at-returns-then-at-slots-clause-ok t c =
    rw (at_present c.args.members.now c.args.slots.now c.args.at c.index-members-at.result c.index-slots-at.result c.if-at-members.true c.if-at-slots.true c.index-members-at.is c.index-slots-at.is) c.write_slot.ensures.ok

pub write_at-returns-else-at-members-clause-ok : goal.write_at-returns-else-at-members-clause-ok
write_at-returns-else-at-members-clause-ok t c =
    elim c.else-at-members.branch [
      | write_at-else-at-members-via-then-at-members+else-at-slots w ↦ rw (at_slots_past c.args.members.now c.args.slots.now c.args.at w.if-at-slots.false) c.null.ensures.ok
      | write_at-else-at-members-via-else-at-members w ↦ rw (at_members_past c.args.members.now c.args.slots.now c.args.at w.if-at-members.false) c.null.ensures.ok
    ]
