use Rattle.std.proofs.Common.{◌≡◌, suc, ◌+◌, ◌-◌, ◌≤◌, sym, ap, subst, ◌∙◌, arith}
use Rattle.type_trees.specs.Bridge.{type_shape}
use Rattle.xcdr_model.specs.KeyOctets.{end_of}
use Rattle.key_instances.specs.octets.Ends.{past, items_end}
use Rattle.key_instances.proofs.OfOctets.Stays.{past_most, items_far, items_next}
use Rattle.key_instances.proofs.octets.lengths.end_of_items.Goals as goal

pub returns-then-at-eq-PAST : goal.returns-then-at-eq-PAST
returns-then-at-eq-PAST c =
    let t = type_shape c.args.ty.now in
    let left = c.args.count - c.loop.counter in
    let far : c.loop.at ≡ 17 = c.if-at-eq-PAST.true in
    sym (items_far t left) ∙ ap (λ k. past (items_end t left k)) (sym far) ∙ c.loop.invariant.1

pub loop-preserved : goal.loop-preserved
loop-preserved c =
    let t = type_shape c.args.ty.now in
    let left = c.args.count - (c.loop.counter + 1) in
    let one_more : c.args.count - c.loop.counter ≡ suc left = omega (arith, c.loop-test.true, c.loop.auto.counter-end) in
    let within : c.end_of_leaf-at.result ≤ 17 = subst (λ k. k ≤ 17) (sym c.end_of_leaf-at.ensures) (past_most (end_of t c.loop.at)) in
    (within, ap (λ k. past (items_end t left k)) c.end_of_leaf-at.ensures ∙ sym (items_next t left c.loop.at) ∙ ap (λ k. past (items_end t k c.loop.at)) (sym one_more) ∙ c.loop.invariant.1)
