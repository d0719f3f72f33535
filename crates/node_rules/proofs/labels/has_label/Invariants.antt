use Rattle.std.proofs.Common.{◌≡◌, drop}
use Rattle.type_trees.specs.Bridge.{cases_shape}
use Rattle.xt_shapes.specs.Shape.{case_heads}
use Rattle.node_rules.specs.Rules.{any_labelled}
use Rattle.node_rules.proofs.labels.has_label.Given as goal

abbrev pub invariant-loop-case : goal.invariant-loop-case
invariant-loop-case l = any_labelled (case_heads (cases_shape (drop l.case-index l.cases))) ≡ any_labelled (case_heads (cases_shape l.cases))
