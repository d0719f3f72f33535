use Rattle.std.proofs.Common.{true, ap, ◌∙◌}
use Rattle.type_trees.specs.Bridge.{type_shape, members_shape}
use Rattle.xt_shapes.specs.Keyable.{counted_keyable}
use Rattle.xcdr_model.specs.Premises.{sound_members, distinct_members}
use Rattle.key_instances.proofs.OfOctets.Tops.{members_kept, disc_leaf}
use Rattle.key_instances.proofs.octets.lengths.ends_within_hash.Goals as goal

pub end_of_counted-requires-clause-distinct : goal.end_of_counted-requires-clause-distinct
end_of_counted-requires-clause-distinct c =
    let kept = members_kept (type_shape c.args.ty.now) _ c.in-Some.ensures (c.premises_hold.ensures (type_shape c.args.ty.now) (c.shape_keeps_rules.ensures _ c.requires.valid)) in
    ap (λ ms. distinct_members (members_shape ms)) c.as_slice.ensures ∙ kept.distinct

pub end_of_counted-requires-clause-sound : goal.end_of_counted-requires-clause-sound
end_of_counted-requires-clause-sound c =
    let kept = members_kept (type_shape c.args.ty.now) _ c.in-Some.ensures (c.premises_hold.ensures (type_shape c.args.ty.now) (c.shape_keeps_rules.ensures _ c.requires.valid)) in
    ap (λ ms. sound_members (members_shape ms)) c.as_slice.ensures ∙ kept.sound

pub end_of_counted-requires-clause-keyable : goal.end_of_counted-requires-clause-keyable
end_of_counted-requires-clause-keyable c =
    let kept = members_kept (type_shape c.args.ty.now) _ c.in-Some.ensures (c.premises_hold.ensures (type_shape c.args.ty.now) (c.shape_keeps_rules.ensures _ c.requires.valid)) in
    ap (λ ms. counted_keyable true (members_shape ms)) c.as_slice.ensures ∙ kept.keyable

pub end_of_leaf-requires-clause-leaf : goal.end_of_leaf-requires-clause-leaf
end_of_leaf-requires-clause-leaf c = disc_leaf (type_shape c.args.ty.now) _ c.in-Some-as_union.ensures (c.premises_hold.ensures (type_shape c.args.ty.now) (c.shape_keeps_rules.ensures _ c.requires.valid))
