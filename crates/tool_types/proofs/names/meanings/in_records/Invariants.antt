use Rattle.std.proofs.Common.{◌≡◌, drop, map}
use Rattle.tool_types.specs.Declaring.{AllGood, declared_view}
use Rattle.tool_types.specs.names.Names as spec
use Rattle.tool_types.proofs.names.meanings.in_records.Given as goal

abbrev pub invariant-loop-declared : goal.invariant-loop-declared
invariant-loop-declared l = AllGood (drop l.declared-index l.records) × (spec.in_records l.name (map declared_view (drop l.declared-index l.records)) ≡ spec.in_records l.name (map declared_view l.records))
