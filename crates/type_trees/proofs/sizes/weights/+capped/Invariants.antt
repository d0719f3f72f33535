use Rattle.std.proofs.Common.{◌≡◌, ◌+◌, min, max, drop, ◌≤◌}
use Rattle.xt_shapes.specs.Weight.{weights, greatest}
use Rattle.type_trees.specs.Bridge.{members_shape, cases_shape}
use Rattle.type_trees.proofs.sizes.weights.+capped.Given as goal

abbrev pub invariant-capped_weights-loop-member : goal.invariant-capped_weights-loop-member
invariant-capped_weights-loop-member l =
    (min 65537 (l.sum + weights (members_shape (drop l.member-index l.members))) ≡ min 65537 (weights (members_shape l.members))) × (l.sum ≤ 65537)

abbrev pub invariant-capped_greatest-loop-case : goal.invariant-capped_greatest-loop-case
invariant-capped_greatest-loop-case l =
    (min 65537 (max l.greatest (greatest (cases_shape (drop l.case-index l.cases)))) ≡ min 65537 (greatest (cases_shape l.cases))) × (l.greatest ≤ 65537)
