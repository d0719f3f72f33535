use Rattle.std.proofs.Common.{◌≡◌, ◌++◌, drop}
use Rattle.idl_printer.specs.Uses.{dims_text}
use Rattle.idl_printer.proofs.uses.dimensions.Given as goal

abbrev pub invariant-loop-dim : goal.invariant-loop-dim
invariant-loop-dim l = l.out ++ dims_text (drop l.dim-index l.dims) ≡ l.initial.out ++ dims_text l.dims
