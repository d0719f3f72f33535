use Rattle.std.proofs.Common.{◌≡◌, ◌++◌, drop, map}
use Rattle.object_formats.specs.View as view
use Rattle.pair_memo.specs.nodes.Seen.{arm_in}
use Rattle.pair_memo.specs.nodes.Views.{arm_view}
use Rattle.pair_memo.proofs.nodes.nodes.cases_of.Given as goal

abbrev pub invariant-loop-case : goal.invariant-loop-case
invariant-loop-case l = map arm_view l.row ++ map arm_in (map view.case (drop l.case-index l.cases)) ≡ map arm_in (map view.case l.cases)
