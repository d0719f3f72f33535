use Rattle.xt_vectors.specs.Values.{letters_drawn}
use Rattle.xt_vectors.proofs.Loops.{IsDrawn}
use Rattle.xt_vectors.proofs.values.draw_letters.Given as goal

abbrev pub invariant-loop-turn : goal.invariant-loop-turn
invariant-loop-turn l = IsDrawn (letters_drawn l._turn l.fn.draws.state) l.text l.draws.state
