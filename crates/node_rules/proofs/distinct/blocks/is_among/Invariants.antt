use Rattle.std.proofs.Common.{◌≡◌, ◌||◌, drop}
use Rattle.std.specs.Ordering.{int_eq}
use Rattle.xt_shapes.specs.Lists.{has}
use Rattle.node_rules.proofs.distinct.blocks.is_among.Given as goal

abbrev pub invariant-loop-held : goal.invariant-loop-held
invariant-loop-held l =
    (l.found || has (λ held. int_eq held l.number) (drop l.held-index l.block)) ≡ has (λ held. int_eq held l.number) l.block
