use Rattle.std.proofs.Common.{ap, ◌∙◌, true, map, Some}
use Rattle.type_trees.specs.Bridge.{members_shape}
use Rattle.xt_shapes.specs.declared.leaves.Order.TheVariants.{Big}
use Rattle.xt_shapes.specs.Vals.{slots_of}
use Rattle.packed_reader.specs.View.{packed_slot}
use Rattle.key_instances.specs.octets.Chains.{counted_fixed}
use Rattle.key_instances.proofs.OfOctets.Whole.{all_written, made}
use Rattle.key_instances.proofs.octets.packed.members_octets.Goals as goal

pub returns : goal.returns
returns c =
    let ms = members_shape c.args.members.now in
    let ss = slots_of (map packed_slot c.args.slots.now) in
    let place = ap (λ w. w.place) c.new-out.ensures in
    let origin = ap (λ w. w.origin) c.new-out.ensures in
    let order = ap (λ w. w.order) c.new-out.ensures in
    let none = ap (λ w. w.taken) c.new-out.ensures ∙ ap Some c.new.ensures.text in
    let all = all_written (λ o. counted_fixed o true ms ss) Big c.new-out.result c.put_packed.new.out c.end.result.text place origin order none c.end.ensures.taken c.in_ok-put_packed.ensures c.requires.few in
    made c.from_octets.result c.from_octets.ensures (c.octets.ensures ∙ all)
