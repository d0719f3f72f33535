use Rattle.std.proofs.Common.{◌≡◌, drop}
use Rattle.std.specs.Ordering.{is_eq}
use Rattle.node_rules.specs.distinct.Repeats.{next_is_same}
use Rattle.node_rules.proofs.distinct.neighbours.has_same_neighbours.Given as goal

abbrev pub invariant-loop-next : goal.invariant-loop-next
invariant-loop-next g l = next_is_same (λ a b. is_eq (g.K.Ord.cmp a b)) l.last (drop l.next-index l.keys) ≡ next_is_same (λ a b. is_eq (g.K.Ord.cmp a b)) l.key l.keys
