use Rattle.std.proofs.Common.{◌∙◌, sym, ap, Bool, true, false, ◌&&◌, not}
use Rattle.type_trees.specs.Bridge.{members_shape, member_head}
use Rattle.xt_shapes.specs.Select.{has_member, is_must}
use Rattle.try_construct.proofs.FoundSteps.{lacks_step}
use Rattle.try_construct.proofs.projected.lacks_must.Goals as goal

pub returns-in-None : goal.returns-in-None
returns-in-None c =
    let ms = members_shape c.args.members.now in
    let n = c.index-others-at.result in
    let needed = c.in-None.ensures ∙ ap (λ (b : Bool). b && (is_must (member_head n) && not (has_member ms n.id))) c.is_present_at.ensures in
    sym (lacks_step true ms c.args.others.now c.args.slots.now c.loop-at.at n c.loop-at-test.true c.index-others-at.is needed) ∙ c.loop-at.invariant

pub loop-at-preserved : goal.loop-at-preserved
loop-at-preserved c =
    let ms = members_shape c.args.members.now in
    let n = c.index-others-at.result in
    let met = c.in-Some.ensures ∙ ap (λ (b : Bool). b && (is_must (member_head n) && not (has_member ms n.id))) c.is_present_at.ensures in
    sym (lacks_step false ms c.args.others.now c.args.slots.now c.loop-at.at n c.loop-at-test.true c.index-others-at.is met) ∙ c.loop-at.invariant
