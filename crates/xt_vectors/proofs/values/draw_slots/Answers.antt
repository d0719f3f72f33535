use Rattle.std.proofs.Common.{ap, ◌∙◌, map}
use Rattle.std.proofs.lemmas.List.{drop_more, map-append}
use Rattle.type_trees.specs.View.{body_val}
use Rattle.xt_vectors.proofs.Slots.{one_slot_on, all_slots}
use Rattle.xt_vectors.proofs.values.draw_slots.Goals as goal

pub loop-plan-preserved : goal.loop-plan-preserved
loop-plan-preserved c = one_slot_on c.args.plans.now c.loop-plan.plan-index _ _ _ _ _ _ _ (drop_more c.args.plans.now c.loop-plan.plan-index _ c.loop-plan-test.true) c.in_ok-draw_slot.ensures.item c.in_ok-draw_slot.ensures.state (ap (map body_val) c.in_ok-push.ensures.ok ∙ map-append body_val _ _) c.loop-plan.invariant

pub returns-clause-item : goal.returns-clause-item
returns-clause-item c = ap (λ x. x.0) (all_slots _ _ _ _ c.loop-plan-test.false c.loop-plan.invariant)

pub returns-clause-state : goal.returns-clause-state
returns-clause-state c = ap (λ x. x.1) (all_slots _ _ _ _ c.loop-plan-test.false c.loop-plan.invariant)
