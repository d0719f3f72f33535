use denote.Param.Weighed.{at_most}
use Rattle.std.proofs.Common.{rules, ◌≡◌, ◌∙◌, ◌+◌, suc, sym, ap, ap₂, arith}
use Rattle.std.proofs.lemmas.Result.{err_from_is_err_and}
use Rattle.xt_shapes.specs.declared.leaves.Order.{Order}
use Rattle.xt_shapes.specs.Vals.{Val}
use Rattle.type_trees.proofs.types.Member.TheLaws as member_laws
use Rattle.type_trees.specs.Bridge.{type_shape, members_shape}
use Rattle.type_trees.specs.View.{val, slots_val}
use Rattle.std.specs.Option.{option_map}
use Rattle.value_writer.specs.Slots.{slot_of}
use Rattle.xt_wire.proofs.OfWriter.Puts.{begins}
use Rattle.xcdr_model.specs.FixedSpelling.{then_fixed, if_present_fixed}
use Rattle.xcdr_model.specs.KeyOctets.{key_types}
use Rattle.xcdr_model.specs.Keys.{key_parts}
use Rattle.xcdr_writer.proofs.Chains.{onward, onward_fails, all_done, none_put}
use Rattle.key_instances.specs.octets.Chains.{chained, counted_fixed, part_fixed}
use Rattle.key_instances.proofs.OfOctets.From.{from, from_first}
use Rattle.key_instances.proofs.OfOctets.Members.{here}
use Rattle.key_instances.proofs.OfOctets.Chained.{turned_here, all_chained}
use Rattle.key_instances.proofs.octets.parts.+parts.Goals as goal

pub put_counted-members-init : goal.put_counted-members-init
put_counted-members-init g t c =
    let ms = members_shape c.args.members.now in
    let ss = slots_val c.args.slots.now in
    begins 4294967296 _ _ c.args.out.now (λ p. ap₂ (λ xs ys. chained c.args.out.now.order xs ys p) (sym (from_first (key_types c.args.keyed ms))) (sym (from_first (key_parts c.args.keyed ms ss))))

pub put_counted-put_slot-requires : goal.put_counted-put_slot-requires
put_counted-put_slot-requires g t c =
    let m = c.index-members-at.result in
    let ms = c.args.members.now in
    let own = here c.args.keyed ms c.members.from c.in-Some.field-0 m c.in-Some.ensures.next c.in-Some.ensures.within c.index-members-at.is c.requires.distinct c.requires.sound c.requires.keyable in
    let own_filled = (turned_here c.args.keyed ms c.args.slots.now c.members.from c.in-Some.field-0 m _ c.in-Some.ensures.next c.in-Some.ensures.within c.index-members-at.is c.slot_at.ensures c.requires.distinct c.requires.keyable c.requires.typed).filled in
    let smaller = rw (← c.index-members-at.is) at (at_most member_laws.the_size ms c.in-Some.field-0.at m c.in-Some.ensures.within) in
    search rules

pub put_counted-returns-in_err-put_slot : goal.put_counted-returns-in_err-put_slot
put_counted-returns-in_err-put_slot g t c =
    let m = c.index-members-at.result in
    let o = c.args.out.now.order in
    let s = slot_of (option_map (λ v. val v.now) c.slot_at.result) in
    let turn = turned_here c.args.keyed c.args.members.now c.args.slots.now c.members.from c.in-Some.field-0 m s c.in-Some.ensures.next c.in-Some.ensures.within c.index-members-at.is c.slot_at.ensures c.requires.distinct c.requires.keyable c.requires.typed in
    let e = err_from_is_err_and c.from_residual.result c.from_residual.ensures.1 in
    rw e.1 (onward_fails (counted_fixed o c.args.keyed (members_shape c.args.members.now) (slots_val c.args.slots.now)) _ _ (λ (K : Order). if_present_fixed s (λ (w : Val). part_fixed K (type_shape m.ty) w)) c.members.invariant (turn.left o) c.in_err-put_slot.ensures)

pub put_counted-members-smaller : goal.put_counted-members-smaller
put_counted-members-smaller g t c =
    let own = here c.args.keyed c.args.members.now c.members.from c.in-Some.field-0 c.index-members-at.result c.in-Some.ensures.next c.in-Some.ensures.within c.index-members-at.is c.requires.distinct c.requires.sound c.requires.keyable in
    own.fewer c.from-from.result c.from-from.ensures

pub put_counted-members-preserved : goal.put_counted-members-preserved
put_counted-members-preserved g t c =
    let m = c.index-members-at.result in
    let at = c.in-Some.field-0 in
    let o = c.args.out.now.order in
    let ms = members_shape c.args.members.now in
    let ss = slots_val c.args.slots.now in
    let s = slot_of (option_map (λ v. val v.now) c.slot_at.result) in
    let turn = turned_here c.args.keyed c.args.members.now c.args.slots.now c.members.from at m s c.in-Some.ensures.next c.in-Some.ensures.within c.index-members-at.is c.slot_at.ensures c.requires.distinct c.requires.keyable c.requires.typed in
    let behind : suc at.id ≡ c.from-from.result + 1 = omega (arith, c.from-from.ensures) in
    let left = turn.left o ∙ ap (λ n. then_fixed (if_present_fixed s (λ (w : Val). part_fixed o (type_shape m.ty) w)) (chained o (from n (key_types c.args.keyed ms)) (from n (key_parts c.args.keyed ms ss)))) behind in
    onward (counted_fixed o c.args.keyed ms ss) _ _ (λ (K : Order). if_present_fixed s (λ (w : Val). part_fixed K (type_shape m.ty) w)) c.members.invariant left c.in_ok-put_slot.ensures

pub put_counted-returns : goal.put_counted-returns
put_counted-returns g t c =
    let o = c.args.out.now.order in
    let ms = members_shape c.args.members.now in
    let ss = slots_val c.args.slots.now in
    all_done (counted_fixed o c.args.keyed ms ss) _ c.members.invariant (all_chained o c.args.keyed ms ss c.members.from c.in_default.ensures.next c.requires.distinct)

pub put_slot-returns-in-None : goal.put_slot-returns-in-None
put_slot-returns-in-None g t c = rw c.in-None.is (none_put c.args.out.now)
