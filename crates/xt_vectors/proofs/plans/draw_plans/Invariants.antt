use Rattle.xt_vectors.specs.Plans.{plans_drawn}
use Rattle.xt_vectors.proofs.Loops.{IsDrawn}
use Rattle.xt_vectors.proofs.plans.draw_plans.Given as goal

abbrev pub invariant-loop-id : goal.invariant-loop-id
invariant-loop-id l = IsDrawn (plans_drawn l.id l.fn.draws.state) l.plans l.draws.state
