use Rattle.std.proofs.Common.{◌≡◌, drop}
use Rattle.type_trees.specs.Bridge.{members_shape}
use Rattle.xcdr_steps.specs.reading.Indices.{index_of}
use Rattle.try_construct.proofs.CasesByIndex.{shifted}
use Rattle.xcdr_steps.proofs.reading.places.search.Given as goal

abbrev pub invariant-loop-at : goal.invariant-loop-at
invariant-loop-at l = index_of (members_shape l.members) l.id ≡ shifted l.at (index_of (members_shape (drop l.at l.members)) l.id)
