use Rattle.std.proofs.Common.{◌≡◌, ◌∙◌, ◌+◌, suc, true, map, drop, sym, ap, ap₂, arith}
use Rattle.xt_shapes.specs.declared.leaves.Order.{Order}
use Rattle.xt_shapes.specs.Vals.{Val, slots_of, first}
use Rattle.type_trees.specs.Bridge.{type_shape, members_shape}
use Rattle.packed_reader.specs.View.{packed_slot}
use Rattle.xt_wire.proofs.OfWriter.Puts.{begins}
use Rattle.xcdr_model.specs.FixedSpelling.{then_fixed, if_present_fixed}
use Rattle.xcdr_model.specs.KeyOctets.{key_types}
use Rattle.xcdr_model.specs.Keys.{key_parts}
use Rattle.xcdr_writer.proofs.Chains.{onward, all_done}
use Rattle.key_instances.specs.octets.Chains.{chained, counted_fixed, part_fixed}
use Rattle.key_instances.proofs.OfOctets.From.{from, from_first}
use Rattle.key_instances.proofs.OfOctets.Members.{here}
use Rattle.key_instances.proofs.OfOctets.Chained.{all_chained}
use Rattle.key_instances.proofs.OfOctets.PackedSlots.{turned_here}
use Rattle.key_instances.proofs.octets.packed.put_packed.Goals as goal

pub members-init : goal.members-init
members-init g c =
    let ms = members_shape c.args.members.now in
    let ss = slots_of (map packed_slot c.args.slots.now) in
    begins 4294967296 _ _ c.args.out.now (λ p. ap₂ (λ xs ys. chained c.args.out.now.order xs ys p) (sym (from_first (key_types true ms))) (sym (from_first (key_parts true ms ss))))

pub put_at-requires-clause-sound : goal.put_at-requires-clause-sound
put_at-requires-clause-sound g c =
    (here true c.args.members.now c.members.from c.in-Some.field-0 c.index-members-at.result c.in-Some.ensures.next c.in-Some.ensures.within c.index-members-at.is c.requires.distinct c.requires.sound c.requires.keyable).sound

pub put_at-requires-clause-keyable : goal.put_at-requires-clause-keyable
put_at-requires-clause-keyable g c =
    (here true c.args.members.now c.members.from c.in-Some.field-0 c.index-members-at.result c.in-Some.ensures.next c.in-Some.ensures.within c.index-members-at.is c.requires.distinct c.requires.sound c.requires.keyable).keyable

pub put_at-requires-clause-filled : goal.put_at-requires-clause-filled
put_at-requires-clause-filled g c =
    (turned_here true c.args.members.now c.args.slots.now c.members.from c.in-Some.field-0 c.index-members-at.result c.in-Some.ensures.next c.in-Some.ensures.within c.index-members-at.is c.requires.distinct c.requires.keyable c.requires.typed).filled

pub members-smaller : goal.members-smaller
members-smaller g c =
    let own = here true c.args.members.now c.members.from c.in-Some.field-0 c.index-members-at.result c.in-Some.ensures.next c.in-Some.ensures.within c.index-members-at.is c.requires.distinct c.requires.sound c.requires.keyable in
    own.fewer c.from-from.result c.from-from.ensures

pub members-preserved : goal.members-preserved
members-preserved g c =
    let m = c.index-members-at.result in
    let at = c.in-Some.field-0 in
    let o = c.args.out.now.order in
    let ms = members_shape c.args.members.now in
    let ss = slots_of (map packed_slot c.args.slots.now) in
    let s = first (slots_of (map packed_slot (drop at.at c.args.slots.now))) in
    let turn = turned_here true c.args.members.now c.args.slots.now c.members.from at m c.in-Some.ensures.next c.in-Some.ensures.within c.index-members-at.is c.requires.distinct c.requires.keyable c.requires.typed in
    let behind : suc at.id ≡ c.from-from.result + 1 = omega (arith, c.from-from.ensures) in
    let left = turn.left o ∙ ap (λ n. then_fixed (if_present_fixed s (λ (w : Val). part_fixed o (type_shape m.ty) w)) (chained o (from n (key_types true ms)) (from n (key_parts true ms ss)))) behind in
    onward (counted_fixed o true ms ss) _ _ (λ (K : Order). if_present_fixed s (λ (w : Val). part_fixed K (type_shape m.ty) w)) c.members.invariant left c.in_ok-put_at.ensures

pub returns : goal.returns
returns g c =
    let o = c.args.out.now.order in
    let ms = members_shape c.args.members.now in
    let ss = slots_of (map packed_slot c.args.slots.now) in
    all_done (counted_fixed o true ms ss) _ c.members.invariant (all_chained o true ms ss c.members.from c.in_default.ensures.next c.requires.distinct)
