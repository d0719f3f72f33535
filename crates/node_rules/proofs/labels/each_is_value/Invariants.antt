use Rattle.std.proofs.Common.{◌≡◌, drop}
use Rattle.type_trees.specs.Bridge.{type_shape, cases_shape}
use Rattle.xt_shapes.specs.Lists.{all}
use Rattle.xt_shapes.specs.Shape.{case_heads}
use Rattle.xt_shapes.specs.NodeRules.{labels_of}
use Rattle.node_rules.specs.Rules.{is_value}
use Rattle.node_rules.proofs.labels.each_is_value.Given as goal

abbrev pub invariant-loop-case : goal.invariant-loop-case
invariant-loop-case l =
    all (is_value (type_shape l.disc)) (labels_of (case_heads (cases_shape (drop l.case-index l.cases)))) ≡ all (is_value (type_shape l.disc)) (labels_of (case_heads (cases_shape l.cases)))
