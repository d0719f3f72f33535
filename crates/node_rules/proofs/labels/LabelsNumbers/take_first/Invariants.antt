use Rattle.std.proofs.Common.{◌≡◌, ◌++◌, length}
use Rattle.type_trees.specs.Bridge.{cases_shape}
use Rattle.xt_shapes.specs.Shape.{case_heads}
use Rattle.xt_shapes.specs.NodeRules.{labels_of}
use Rattle.node_rules.proofs.labels.LabelsNumbers.take_first.Given as goal

abbrev pub invariant-loop-case : goal.invariant-loop-case
invariant-loop-case l =
    l.self.labels.now ++ labels_of (case_heads (cases_shape l.self.cases.now)) ≡ l.initial.self.labels.now ++ labels_of (case_heads (cases_shape l.initial.self.cases.now))

abbrev pub decreases-loop-case : goal.decreases-loop-case
decreases-loop-case l = length l.self.cases.now
