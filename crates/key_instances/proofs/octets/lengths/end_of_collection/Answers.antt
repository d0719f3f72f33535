use Rattle.std.proofs.Common.{◌≡◌, min, ap, ◌∙◌}
use Rattle.type_trees.specs.Bridge.{type_shape}
use Rattle.xcdr_model.specs.KeyOctets.{headed}
use Rattle.xcdr_model.specs.Xcdr2Reading.{is_primitive}
use Rattle.key_instances.specs.octets.Ends.{past, items_end, behind_count}
use Rattle.key_instances.proofs.OfOctets.Stays.{items_past, behind_past}
use Rattle.key_instances.proofs.octets.lengths.end_of_collection.Goals as goal

pub returns : goal.returns
returns c =
    let t = type_shape c.args.ty.now in
    let begin = headed (is_primitive t) c.args.place in
    let start : c.behind_count.result ≡ min (behind_count c.args.counted begin) 17 = c.behind_count.ensures ∙ ap (λ k. min (behind_count c.args.counted k) 17) c.headed.ensures ∙ behind_past c.args.counted begin in
    c.end_of_items.ensures ∙ ap (λ k. past (items_end t c.args.count k)) start ∙ items_past t c.args.count (behind_count c.args.counted begin)
