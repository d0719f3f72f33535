use Rattle.std.proofs.Common.{◌≡◌, drop}
use Rattle.idl_types.specs.Definitions.{declared}
use Rattle.tool_types.specs.names.Names as spec
use Rattle.tool_types.proofs.names.meanings.place_by_name.Given as goal

abbrev pub invariant-loop-at : goal.invariant-loop-at
invariant-loop-at l = spec.type_by_name l.name (drop l.at (declared l.types)) ≡ spec.type_by_name l.name (declared l.types)
