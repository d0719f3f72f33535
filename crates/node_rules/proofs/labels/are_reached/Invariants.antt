use Rattle.std.proofs.Common.{◌≡◌, drop}
use Rattle.type_trees.specs.Bridge.{cases_shape}
use Rattle.xt_shapes.specs.Shape.{case_heads}
use Rattle.xt_shapes.specs.Lists.{all}
use Rattle.node_rules.specs.Rules.{is_reached}
use Rattle.node_rules.proofs.labels.are_reached.Given as goal

abbrev pub invariant-loop-case : goal.invariant-loop-case
invariant-loop-case l = all is_reached (case_heads (cases_shape (drop l.case-index l.cases))) ≡ all is_reached (case_heads (cases_shape l.cases))
