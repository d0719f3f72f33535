use Rattle.std.proofs.Common.{◌≡◌, drop}
use Rattle.pair_memo.specs.nodes.Seen.{See}
use Rattle.pair_memo.specs.nodes.Views.{arms_in}
use Rattle.xt_shapes.specs.Select.{case_at}
use Rattle.pair_memo.proofs.nodes.places.arm_at.Given as goal

abbrev pub invariant-loop-arm : goal.invariant-loop-arm
invariant-loop-arm l = (see : See) → case_at (arms_in see (drop l.arm-index l.arms)) l.id ≡ case_at (arms_in see l.arms) l.id
