use Rattle.std.proofs.Common.{take}
use Rattle.idl_types.specs.Definitions.{declared}
use Rattle.type_resolve.proofs.Turns.{AreMade}
use Rattle.type_resolve.proofs.declared.objects_declared.Given as goal

abbrev pub invariant-loop-at : goal.invariant-loop-at
invariant-loop-at l = AreMade l.fn.pool l.pool (declared (take l.at l.types)) l.ids
