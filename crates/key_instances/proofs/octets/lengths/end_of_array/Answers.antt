use Rattle.std.proofs.Common.{false, min, ap, ◌∙◌, arith}
use Rattle.type_trees.specs.Bridge.{type_shape}
use Rattle.xt_shapes.specs.Shape.{product}
use Rattle.xcdr_model.specs.KeyOctets.{headed}
use Rattle.xcdr_model.specs.Xcdr2Reading.{is_primitive}
use Rattle.key_instances.specs.octets.Ends.{past, collection_end}
use Rattle.key_instances.proofs.OfOctets.Stays.{items_least}
use Rattle.key_instances.proofs.octets.lengths.end_of_array.Goals as goal

pub returns : goal.returns
returns c =
    let t = type_shape c.args.kind.now.elem.ty in
    let start = headed (is_primitive t) c.args.place in
    c.end_of_collection.ensures ∙ ap (λ k. past (collection_end t false k c.args.place)) (c.elements_of.ensures ∙ ap (λ l. min 18446744073709551615 (product l)) c.as_slice.ensures) ∙ items_least t c.requires.leaf 18446744073709551615 (product c.args.kind.now.dims) start (omega arith)
