use Rattle.std.proofs.Common.{◌≡◌, ℕ, ◌≤◌, length, drop}
use Rattle.std.specs.BTreeMap.{get}
use Rattle.std.specs.Ordering.{nat_cmp}
use Rattle.type_trees.specs.Bridge.{cases_shape}
use Rattle.try_construct.specs.Guides.{case_index}
use Rattle.try_construct.proofs.CasesByIndex.{shifted}
use Rattle.try_construct.proofs.guiding.places_of.Given as goal

-- the cases from there on are held
abbrev pub invariant-cases : goal.invariant-cases
invariant-cases l = (l.at ≤ length l.cases) × ((id : ℕ) → get nat_cmp l.places id ≡ shifted l.at (case_index (cases_shape (drop l.at l.cases)) id))

abbrev pub decreases-cases : goal.decreases-cases
decreases-cases l = l.at
