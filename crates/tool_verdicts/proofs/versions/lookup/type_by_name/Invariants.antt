use Rattle.std.proofs.Common.{◌≡◌, drop}
use Rattle.idl_types.specs.State.{declared}
use Rattle.tool_types.specs.Declaring.{AreIdentified}
use Rattle.tool_types.specs.names.Names as spec
use Rattle.tool_verdicts.proofs.versions.lookup.type_by_name.Given as goal

abbrev pub invariant-loop-at : goal.invariant-loop-at
invariant-loop-at l = record {
  identified : AreIdentified (declared (drop l.at l.types)) (drop l.at l.ids);
  same : spec.type_by_name l.name (declared (drop l.at l.types)) ≡ spec.type_by_name l.name (declared l.types);
}
