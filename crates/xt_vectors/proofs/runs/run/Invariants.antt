use Rattle.xt_vectors.specs.Runs.{course}
use Rattle.xt_vectors.proofs.Loops.{IsOnCourse}
use Rattle.xt_vectors.proofs.runs.run.Given as goal

abbrev pub invariant-loop-turn : goal.invariant-loop-turn
invariant-loop-turn l = IsOnCourse (course l.seed l._turn) l._turn l.draws.state l.counts l.hasher
