use Rattle.std.proofs.Common.{◌≡◌, map, drop}
use Rattle.type_trees.specs.View.{body_val}
use Rattle.xt_vectors.specs.Values.{slots_from, slots_drawn}
use Rattle.xt_vectors.proofs.values.draw_slots.Given as goal

abbrev pub invariant-loop-plan : goal.invariant-loop-plan
invariant-loop-plan l = slots_from (drop l.plan-index l.plans) (map body_val l.slots, l.draws.state) ≡ slots_drawn l.plans l.fn.draws.state
