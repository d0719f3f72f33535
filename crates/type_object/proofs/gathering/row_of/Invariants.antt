use Rattle.std.proofs.Common.{◌≡◌, take}
use Rattle.type_object.proofs.gathering.row_of.Given as goal

abbrev pub invariant-loop-id : goal.invariant-loop-id
invariant-loop-id l = l.row ≡ take l.id-index l.ids
