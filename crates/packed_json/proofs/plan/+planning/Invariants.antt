use Rattle.std.proofs.Common.{◌≡◌, length, map}
use Rattle.packed_json.specs.Plans.{PlansCases, meaning, part}
use Rattle.packed_json.proofs.Structures.{Goes}
use Rattle.packed_json.proofs.plan.+planning.Given as goal

abbrev pub invariant-plan_members-loop-name : goal.invariant-plan_members-loop-name
invariant-plan_members-loop-name l = Goes l.members l.name-iterator l.order.entries (map part l.planned)

-- the cases so far are planned
abbrev pub invariant-plan_cases-loop-case : goal.invariant-plan_cases-loop-case
invariant-plan_cases-loop-case l = PlansCases l.cases (map meaning l.planned) × (length l.planned ≡ l.case-index)
