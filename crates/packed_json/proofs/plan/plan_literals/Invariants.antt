use Rattle.std.proofs.Common.{◌≤◌, length, drop}
use Rattle.packed_json.specs.Plans.{PlansLiterals}
use Rattle.packed_json.proofs.plan.plan_literals.Given as goal

-- the literals from there on have their names
abbrev pub invariant-literals : goal.invariant-literals
invariant-literals l = (l.at ≤ length l.literals) × PlansLiterals (drop l.at l.literals) l.named

abbrev pub decreases-literals : goal.decreases-literals
decreases-literals l = l.at
