use Rattle.std.proofs.Common.{◌≡◌, take, map}
use Rattle.xt_vectors.specs.Readers.{changed}
use Rattle.xt_vectors.proofs.readers.changed_plans.Given as goal

abbrev pub invariant-loop-plan : goal.invariant-loop-plan
invariant-loop-plan l = l.all ≡ map (changed l.change) (take l.plan-index l.plans)
