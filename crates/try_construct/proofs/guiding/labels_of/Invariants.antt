use Rattle.std.proofs.Common.{◌≡◌, ℤ, ◌≤◌, length, drop}
use Rattle.std.specs.Option.{option_and_then}
use Rattle.std.specs.BTreeMap.{get}
use Rattle.std.specs.Ordering.{int_cmp}
use Rattle.xt_shapes.specs.Select.{labelled}
use Rattle.type_trees.specs.Bridge.{cases_shape}
use Rattle.try_construct.specs.Guides.{case_index}
use Rattle.try_construct.proofs.guiding.labels_of.Given as goal

-- the labels of the cases from there on are held
abbrev pub invariant-cases : goal.invariant-cases
invariant-cases l = (l.at ≤ length l.cases) × ((n : ℤ) → get int_cmp l.labels n ≡ option_and_then (case_index (cases_shape l.cases)) (labelled (cases_shape (drop l.at l.cases)) n))

abbrev pub decreases-cases : goal.decreases-cases
decreases-cases l = l.at
