use Rattle.std.proofs.Common.{◌≡◌, map, take}
use Rattle.type_trees.specs.View.{cases_of}
use Rattle.idl_types.specs.Definitions.{declared, case_whole}
use Rattle.xt_idl.specs.Measures.{of_cases}
use Rattle.xt_idl.proofs.measures.measure_cases.Given as goal

abbrev pub invariant-loop-case : goal.invariant-loop-case
invariant-loop-case l = l.sum ≡ of_cases (cases_of (map (case_whole (declared l.known.types.now)) (take l.case-index l.cases)))
