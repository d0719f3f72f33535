use Rattle.std.proofs.Common.{◌≡◌, true, None, sym, ap, ap₂, ◌∙◌}
use Rattle.std.specs.Option.{option_map}
use Rattle.type_trees.specs.Parts.{union_parts}
use Rattle.xt_shapes.specs.Kinds.{as_union}
use Rattle.type_trees.specs.Bridge.{type_shape, members_shape}
use Rattle.type_trees.specs.View.{val}
use Rattle.xt_shapes.specs.Keyable.{counted_keyable}
use Rattle.xt_shapes.specs.Typing.{have_types}
use Rattle.xt_shapes.specs.Vals.{int, disc_in}
use Rattle.xt_wire.proofs.OfWriter.Puts.{begins, last}
use Rattle.xcdr_model.specs.FixedSpelling.{nothing, fixed}
use Rattle.xcdr_model.specs.Premises.{sound_members, distinct_members}
use Rattle.xcdr_writer.proofs.Chains.{put_as, none_put}
use Rattle.key_instances.specs.octets.Chains.{top_fixed}
use Rattle.key_instances.proofs.OfOctets.Chained.{slots_typed, disc_top, unkeyed_top, other_top}
use Rattle.key_instances.proofs.OfOctets.Tops.{members_kept}
use Rattle.key_instances.proofs.octets.parts.put_key.Goals as goal

pub put_counted-requires-clause-distinct : goal.put_counted-requires-clause-distinct
put_counted-requires-clause-distinct g c =
    let kept = members_kept (type_shape c.args.ty.now) _ c.in-Some.ensures (c.premises_hold.ensures (type_shape c.args.ty.now) (c.shape_keeps_rules.ensures _ c.requires.valid)) in
    ap (λ ms. distinct_members (members_shape ms)) c.as_slice.ensures ∙ kept.distinct

pub put_counted-requires-clause-sound : goal.put_counted-requires-clause-sound
put_counted-requires-clause-sound g c =
    let kept = members_kept (type_shape c.args.ty.now) _ c.in-Some.ensures (c.premises_hold.ensures (type_shape c.args.ty.now) (c.shape_keeps_rules.ensures _ c.requires.valid)) in
    ap (λ ms. sound_members (members_shape ms)) c.as_slice.ensures ∙ kept.sound

pub put_counted-requires-clause-keyable : goal.put_counted-requires-clause-keyable
put_counted-requires-clause-keyable g c =
    let kept = members_kept (type_shape c.args.ty.now) _ c.in-Some.ensures (c.premises_hold.ensures (type_shape c.args.ty.now) (c.shape_keeps_rules.ensures _ c.requires.valid)) in
    ap (λ ms. counted_keyable true (members_shape ms)) c.as_slice.ensures ∙ kept.keyable

pub put_counted-requires-clause-typed : goal.put_counted-requires-clause-typed
put_counted-requires-clause-typed g c =
    ap₂ (λ ms ss. have_types (members_shape ms) ss) c.as_slice.ensures c.slots_in.ensures ∙ slots_typed (type_shape c.args.ty.now) _ (val c.args.value.now) c.in-Some.ensures c.requires.typed

pub returns-in-Some-as_union : goal.returns-in-Some-as_union
returns-in-Some-as_union g c =
    let o = c.args.out.now.order in
    let t = type_shape c.args.ty.now in
    let v = val c.args.value.now in
    let parts = union_parts c.in-Some-as_union.kind.now in
    last (fixed o parts.2 (int (disc_in v))) (begins 4294967296 (top_fixed o t v) (fixed o parts.2 (int (disc_in v))) c.args.out.now (λ p. disc_top t parts o v p c.in-Some-as_union.ensures c.if-kind.true)) c.put_disc.ensures

pub returns-in_default-as_union : goal.returns-in_default-as_union
returns-in_default-as_union g c =
    let o = c.args.out.now.order in
    let t = type_shape c.args.ty.now in
    let v = val c.args.value.now in
    put_as (top_fixed o t v) nothing (unkeyed_top t (union_parts c.in-Some-as_union.kind.now) o v c.in-Some-as_union.ensures c.if-kind.false) (none_put c.args.out.now)

pub returns-in_default-as_union-2 : goal.returns-in_default-as_union-2
returns-in_default-as_union-2 g c =
    let o = c.args.out.now.order in
    let t = type_shape c.args.ty.now in
    let v = val c.args.value.now in
    let none : None ≡ as_union t = ap (option_map (λ k. union_parts k.now)) (sym c.in_default-as_union.is) ∙ c.as_union.ensures in
    put_as (top_fixed o t v) nothing (other_top t o v c.in_default.ensures none) (none_put c.args.out.now)
