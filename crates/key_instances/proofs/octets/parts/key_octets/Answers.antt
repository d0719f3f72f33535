use Rattle.std.proofs.Common.{ap, ◌∙◌, Some}
use Rattle.type_trees.specs.Bridge.{type_shape}
use Rattle.type_trees.specs.View.{val}
use Rattle.xt_shapes.specs.declared.leaves.Order.TheVariants.{Big}
use Rattle.key_instances.specs.octets.Chains.{top_fixed}
use Rattle.key_instances.proofs.OfOctets.Whole.{all_written, made}
use Rattle.key_instances.proofs.octets.parts.key_octets.Goals as goal

pub returns-in-Ok : goal.returns-in-Ok
returns-in-Ok c =
    let t = type_shape c.args.ty.now in
    let v = val c.args.value.now in
    let place = ap (λ w. w.place) c.new-out.ensures in
    let origin = ap (λ w. w.origin) c.new-out.ensures in
    let order = ap (λ w. w.order) c.new-out.ensures in
    let none = ap (λ w. w.taken) c.new-out.ensures ∙ ap Some c.new.ensures.text in
    let all = all_written (λ o. top_fixed o t v) Big c.new-out.result c.put_key.new.out c.end.result.text place origin order none c.end.ensures.taken c.in-Ok.ensures c.requires.few in
    made c.from_octets.result c.from_octets.ensures (c.octets.ensures ∙ all)
