use Rattle.std.proofs.Common.{◌∙◌, sym, true, false, ◌<◌, length, arith}
use Rattle.type_values.proofs.SlotSteps.{slots_unequal, slots_step, slots_end}
use Rattle.type_values.proofs.typed.+has_type.Goals as goal

pub slots_have_types-returns-then-members-slots : goal.slots_have_types-returns-then-members-slots
slots_have_types-returns-then-members-slots t c = sym (slots_unequal _ _ c.if-members-slots.true)

pub slots_have_types-returns-then-not-slot_has_type : goal.slots_have_types-returns-then-not-slot_has_type
slots_have_types-returns-then-not-slot_has_type t c =
    let within : c.loop-at.at < length c.args.slots.now = omega (arith, c.loop-at-test.true, c.loop-at.invariant.1) in
    sym (slots_step false _ _ _ _ _ c.loop-at-test.true within c.index-members-at.is c.index-slots-at.is c.if-not-slot_has_type.ensures) ∙ c.loop-at.invariant.0

pub slots_have_types-loop-at-preserved : goal.slots_have_types-loop-at-preserved
slots_have_types-loop-at-preserved t c =
    let within : c.loop-at.at < length c.args.slots.now = omega (arith, c.loop-at-test.true, c.loop-at.invariant.1) in (
      sym (slots_step true _ _ _ _ _ c.loop-at-test.true within c.index-members-at.is c.index-slots-at.is c.if-not-slot_has_type.ensures) ∙ c.loop-at.invariant.0,
      c.loop-at.invariant.1,
    )

pub slots_have_types-returns : goal.slots_have_types-returns
slots_have_types-returns t c =
    sym (slots_end c.args.members.now c.args.slots.now c.loop-at.at (omega (arith, c.loop-at-test.false)) (omega (arith, c.loop-at-test.false, c.loop-at.invariant.1))) ∙ c.loop-at.invariant.0
