use Rattle.std.proofs.Common.{◌≡◌, drop}
use Rattle.idl_types.specs.Types.{try_of}
use Rattle.idl_types.proofs.types.try_of.Given as goal

abbrev pub invariant-loop-placed : goal.invariant-loop-placed
invariant-loop-placed l = try_of (drop l.placed-index l.notes) ≡ try_of l.notes
