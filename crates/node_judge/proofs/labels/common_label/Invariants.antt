use Rattle.std.proofs.Common.{◌≡◌, drop, map}
use Rattle.node_judge.specs.Bare.{bare_cases}
use Rattle.xcdr_model.specs.Rules.{common_label}
use Rattle.node_judge.proofs.labels.common_label.Given as goal

abbrev pub invariant-loop-case : goal.invariant-loop-case
invariant-loop-case g l = common_label (bare_cases (map g.T.CaseView.head_of (drop l.case-index l.left))) (bare_cases (map g.T.CaseView.head_of l.right)) ≡ common_label (bare_cases (map g.T.CaseView.head_of l.left)) (bare_cases (map g.T.CaseView.head_of l.right))
