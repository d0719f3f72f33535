use Rattle.std.proofs.Common.{◌≡◌, drop, map}
use Rattle.node_judge.specs.Bare.{bare_cases}
use Rattle.xt_shapes.specs.Select.{default_case}
use Rattle.node_judge.proofs.labels.default_case.Given as goal

abbrev pub invariant-loop-case : goal.invariant-loop-case
invariant-loop-case g l = default_case (bare_cases (map g.T.CaseView.head_of (drop l.case-index l.cases))) ≡ default_case (bare_cases (map g.T.CaseView.head_of l.cases))
