use Rattle.std.proofs.Common.{◌≡◌, ◌++◌, true}
use Rattle.std.specs.Ordering.{int_eq}
use Rattle.arrayvec.specs.ArrayVec.{array_vec_len}
use Rattle.xt_shapes.specs.NodeRules.{distinct}
use Rattle.node_rules.proofs.distinct.blocks.all_distinct.Given as goal

abbrev pub invariant-loop-turn : goal.invariant-loop-turn
invariant-loop-turn g l = record {
  split : g.N.Numbers.left l.numbers ≡ l.block.items ++ g.N.Numbers.left l.rest;
  apart : distinct int_eq l.block.items ≡ true;
  len : array_vec_len l.block ≡ l._turn;
}
