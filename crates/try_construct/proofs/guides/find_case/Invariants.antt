use Rattle.std.proofs.Common.{◌≡◌, drop}
use Rattle.type_trees.specs.Bridge.{cases_shape}
use Rattle.try_construct.specs.Guides.{case_index}
use Rattle.try_construct.proofs.CasesByIndex.{shifted}
use Rattle.try_construct.proofs.guides.find_case.Given as goal

abbrev pub invariant-loop-at : goal.invariant-loop-at
invariant-loop-at l = case_index (cases_shape l.cases) l.id ≡ shifted l.at (case_index (cases_shape (drop l.at l.cases)) l.id)
