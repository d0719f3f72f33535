use Rattle.std.proofs.Common.{◌≡◌, map, take}
use Rattle.arrayvec.specs.ArrayVec.{array_vec_len}
use Rattle.node_judge.proofs.marks.block_of.Given as goal

abbrev pub invariant-loop-item : goal.invariant-loop-item
invariant-loop-item g l = (l.block.items ≡ map g.T.Marked.mark_of (take l.item-index l.items)) × (array_vec_len l.block ≡ l.item-index)
