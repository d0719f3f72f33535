use Rattle.std.proofs.Common.{◌≡◌, drop}
use Rattle.pair_memo.specs.nodes.Seen.{See}
use Rattle.pair_memo.specs.nodes.Views.{parts_in}
use Rattle.xt_shapes.specs.Select.{shape_at}
use Rattle.pair_memo.proofs.nodes.places.part_at.Given as goal

abbrev pub invariant-loop-part : goal.invariant-loop-part
invariant-loop-part l = (see : See) → shape_at (parts_in see (drop l.part-index l.parts)) l.id ≡ shape_at (parts_in see l.parts) l.id
