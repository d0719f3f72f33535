use Rattle.std.proofs.Common.{◌≡◌, drop, map}
use Rattle.node_judge.specs.Bare.{bare_cases}
use Rattle.xcdr_model.specs.Rules.{has_label}
use Rattle.xt_shapes.specs.Lists.{has}
use Rattle.node_judge.proofs.labels.some_label.Given as goal

abbrev pub invariant-loop-label : goal.invariant-loop-label
invariant-loop-label g l = has (has_label (bare_cases (map g.T.CaseView.head_of l.cases))) (drop l.label-index l.labels) ≡ has (has_label (bare_cases (map g.T.CaseView.head_of l.cases))) l.labels
