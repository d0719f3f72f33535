use Rattle.std.proofs.Common.{◌≡◌, ◌++◌}
use Rattle.arrayvec.specs.ArrayVec.{array_vec_len}
use Rattle.node_rules.proofs.distinct.blocks.fill.Given as goal

abbrev pub invariant-loop-turn : goal.invariant-loop-turn
invariant-loop-turn g l = record {
  split : g.N.Numbers.left l.initial.numbers ≡ l.block.items ++ g.N.Numbers.left l.numbers;
  len : array_vec_len l.block ≡ l._turn;
}
