use Rattle.std.proofs.Common.{◌≡◌, ◌++◌, drop, map}
use Rattle.object_formats.specs.View as view
use Rattle.pair_memo.specs.nodes.Seen.{part_in}
use Rattle.pair_memo.specs.nodes.Views.{part_view}
use Rattle.pair_memo.proofs.nodes.nodes.push_own.Given as goal

abbrev pub invariant-loop-member : goal.invariant-loop-member
invariant-loop-member l = map part_view l.row ++ map part_in (map view.member (drop l.member-index l.own)) ≡ map part_view l.fn.row ++ map part_in (map view.member l.own)
