use Rattle.std.proofs.Common.{◌≡◌, ◌++◌, ◌≤◌, drop}
use Rattle.arrayvec.specs.ArrayVec.{array_vec_len}
use Rattle.node_rules.specs.distinct.InBlocks.{without}
use Rattle.node_rules.proofs.distinct.blocks.keep_others.Given as goal

abbrev pub invariant-loop-number : goal.invariant-loop-number
invariant-loop-number l = record {
  kept : l.kept.items ++ without l.block (drop l.number-index l.numbers) ≡ without l.block l.numbers;
  few : array_vec_len l.kept ≤ l.number-index;
}
