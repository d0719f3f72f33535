use Rattle.std.proofs.Common.{◌≡◌, map, take}
use Rattle.std.specs.Prelude.{false, true}
use Rattle.object_formats.specs.View as view
use Rattle.idl_types.specs.Definitions.{declared}
use Rattle.type_resolve.specs.Definitions.{used_case_part}
use Rattle.type_resolve.proofs.uses.own_cases.Given as goal

abbrev pub invariant-loop-case : goal.invariant-loop-case
invariant-loop-case l = record {
  minimal : map view.case l.parts.minimal ≡ map (used_case_part false (declared l.types)) (take l.case-index l.cases);
  complete : map view.case l.parts.complete ≡ map (used_case_part true (declared l.types)) (take l.case-index l.cases);
}
