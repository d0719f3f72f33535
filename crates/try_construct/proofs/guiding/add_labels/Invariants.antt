use Rattle.std.proofs.Common.{◌≡◌, ℤ, ◌≤◌, length, drop, cond, Some}
use Rattle.std.specs.BTreeMap.{get}
use Rattle.std.specs.Ordering.{int_cmp, int_eq}
use Rattle.xt_shapes.specs.Lists.{has}
use Rattle.try_construct.proofs.guiding.add_labels.Given as goal

-- the labels from there on select the position
abbrev pub invariant-labels : goal.invariant-labels
invariant-labels l = (l.left ≤ length l.found) × ((n : ℤ) → get int_cmp l.labels n ≡ cond (has (int_eq n) (drop l.left l.found)) (Some l.at) (get int_cmp l.initial.labels n))

abbrev pub decreases-labels : goal.decreases-labels
decreases-labels l = l.left
