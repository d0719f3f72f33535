use Rattle.std.proofs.Common.{◌≡◌, take}
use Rattle.idl_types.specs.State.{declared}
use Rattle.idl_types.specs.Definitions.{declared as declarations}
use Rattle.xt_idl.proofs.trees.trees_of.Given as goal

abbrev pub invariant-loop-declaration : goal.invariant-loop-declaration
invariant-loop-declaration l = declared l.types ≡ declarations (take l.declaration-index l.declarations)
