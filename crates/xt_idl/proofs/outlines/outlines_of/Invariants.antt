use Rattle.std.proofs.Common.{◌≡◌, take}
use Rattle.idl_types.specs.State as state
use Rattle.idl_types.specs.Definitions.{declared}
use Rattle.xt_idl.specs.Outlines.{outlines}
use Rattle.xt_idl.proofs.outlines.outlines_of.Given as goal

abbrev pub invariant-loop-at : goal.invariant-loop-at
invariant-loop-at l = state.declared l.row ≡ outlines (declared (take l.at l.types))
