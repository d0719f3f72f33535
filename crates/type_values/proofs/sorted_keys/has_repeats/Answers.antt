use Rattle.std.proofs.Common.{◌∙◌, ap}
use Rattle.std.specs.Ordering.{is_eq}
use Rattle.node_rules.specs.distinct.Repeats.{any_next_is_same}
use Rattle.node_rules.proofs.OfDistinct.InOrder.{sorted_repeats}
use Rattle.type_values.proofs.sorted_keys.has_repeats.Goals as goal

pub returns : goal.returns
returns g c =
    c.has_same_next.ensures
    ∙ ap (any_next_is_same (λ a b. is_eq (g.K.Ord.cmp a b))) c.as_slice.ensures.value
    ∙ sorted_repeats g.K.Ord.cmp g.met.K.Ord.total c.args.keys.items _ c.sort_unstable.ensures.permutation c.sort_unstable.ensures.sorted
