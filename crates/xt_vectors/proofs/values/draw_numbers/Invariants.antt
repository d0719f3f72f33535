use Rattle.std.proofs.Common.{map}
use Rattle.type_trees.specs.View.{val}
use Rattle.xt_vectors.specs.Values.{numbers_drawn}
use Rattle.xt_vectors.proofs.Loops.{IsDrawn}
use Rattle.xt_vectors.proofs.values.draw_numbers.Given as goal

abbrev pub invariant-loop-turn : goal.invariant-loop-turn
invariant-loop-turn l = IsDrawn (numbers_drawn l._turn l.fn.draws.state) (map val l.items) l.draws.state
