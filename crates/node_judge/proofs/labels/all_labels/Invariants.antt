use Rattle.std.proofs.Common.{◌≡◌, drop, map}
use Rattle.node_judge.specs.Bare.{bare_cases}
use Rattle.xcdr_model.specs.Rules.{has_label}
use Rattle.xt_shapes.specs.Lists.{all}
use Rattle.node_judge.proofs.labels.all_labels.Given as goal

abbrev pub invariant-loop-label : goal.invariant-loop-label
invariant-loop-label g l = all (has_label (bare_cases (map g.T.CaseView.head_of l.cases))) (drop l.label-index l.labels) ≡ all (has_label (bare_cases (map g.T.CaseView.head_of l.cases))) l.labels
