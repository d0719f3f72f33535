use Rattle.std.proofs.Common.{◌∙◌, sym, ap, ◌+◌, drop}
use Rattle.packed_json.specs.Plans.{entries_by, put_from}
use Rattle.packed_json.proofs.Orders.{order_next, order_end}
use Rattle.packed_json.proofs.plan.order_of.Goals as goal

pub loop-at-init : goal.loop-at-init
loop-at-init c = λ there f. ap (λ es. put_from there f 0 c.args.members.now (entries_by there f es)) c.new-order.ensures.empty

pub loop-at-preserved : goal.loop-at-preserved
loop-at-preserved c = λ there f.
    let ms = c.args.members.now in
    let at = c.loop-at.at in
    let next = order_next there f ms at c.index-members-at.result (entries_by there f c.loop-at.order.entries) c.loop-at-test.true c.index-members-at.is in
    ap (put_from there f (at + 1) (drop (at + 1) ms)) (c.in_ok-put_name.ensures there f) ∙ sym next ∙ c.loop-at.invariant there f

pub returns : goal.returns
returns c = λ there f. sym (order_end there f c.args.members.now c.loop-at.at (entries_by there f c.loop-at.order.entries) c.loop-at-test.false) ∙ c.loop-at.invariant there f
