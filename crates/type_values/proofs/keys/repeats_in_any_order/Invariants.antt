use Rattle.std.proofs.Common.{◌≡◌, drop, map}
use Rattle.xt_shapes.specs.Typing.{repeats}
use Rattle.type_trees.specs.View.{pair_val}
use Rattle.type_values.proofs.keys.repeats_in_any_order.Given as goal

abbrev pub invariant-loop-at : goal.invariant-loop-at
invariant-loop-at l = repeats (map pair_val (drop l.at l.pairs)) ≡ repeats (map pair_val l.pairs)
