use Rattle.std.proofs.Common.{◌≡◌, drop}
use Rattle.type_trees.specs.Bridge.{members_shape}
use Rattle.type_trees.specs.View.{slots_val}
use Rattle.xcdr_model.specs.Projection.{lacks_must}
use Rattle.try_construct.proofs.projected.lacks_must.Given as goal

abbrev pub invariant-loop-at : goal.invariant-loop-at
invariant-loop-at l = lacks_must (members_shape l.members) (members_shape (drop l.at l.others)) (slots_val (drop l.at l.slots)) ≡ lacks_must (members_shape l.members) (members_shape l.others) (slots_val l.slots)
