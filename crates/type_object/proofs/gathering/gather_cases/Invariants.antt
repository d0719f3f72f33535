use Rattle.std.proofs.Common.{◌≡◌, drop, map}
use Rattle.object_formats.specs.View.{case}
use Rattle.type_object.specs.References.{noted, case_hashes}
use Rattle.type_object.proofs.gathering.gather_cases.Given as goal

abbrev pub invariant-loop-case : goal.invariant-loop-case
invariant-loop-case l = noted l.seen.keys (case_hashes (map case (drop l.case-index l.cases))) ≡ noted l.fn.seen.keys (case_hashes (map case l.cases))
