use Rattle.std.proofs.Common.{◌≡◌, drop, map}
use Rattle.node_judge.specs.Bare.{bare_cases}
use Rattle.xcdr_model.specs.Rules.{has_default}
use Rattle.node_judge.proofs.labels.has_default.Given as goal

abbrev pub invariant-loop-case : goal.invariant-loop-case
invariant-loop-case g l = has_default (bare_cases (map g.T.CaseView.head_of (drop l.case-index l.cases))) ≡ has_default (bare_cases (map g.T.CaseView.head_of l.cases))
