use Rattle.std.proofs.Common.{◌≡◌, drop, map}
use Rattle.node_judge.specs.Bare.{bare_cases}
use Rattle.xcdr_model.specs.Rules.{labels_within}
use Rattle.node_judge.proofs.labels.labels_within.Given as goal

abbrev pub invariant-loop-case : goal.invariant-loop-case
invariant-loop-case g l = labels_within (bare_cases (map g.T.CaseView.head_of (drop l.case-index l.left))) (bare_cases (map g.T.CaseView.head_of l.right)) ≡ labels_within (bare_cases (map g.T.CaseView.head_of l.left)) (bare_cases (map g.T.CaseView.head_of l.right))
