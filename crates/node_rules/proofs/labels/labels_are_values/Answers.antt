use Rattle.std.proofs.Common.{◌∙◌, ap, map}
use Rattle.type_trees.specs.Bridge.{literal_shape, type_shape, cases_shape}
use Rattle.xt_shapes.specs.Lists.{all}
use Rattle.xt_shapes.specs.NodeRules.{labels_of}
use Rattle.xt_shapes.specs.Select.{is_literal}
use Rattle.xt_shapes.specs.Shape.{case_heads}
use Rattle.node_rules.proofs.Labelled.{among_values, enum_values}
use Rattle.node_rules.proofs.labels.labels_are_values.Goals as goal

pub returns-then-len-gt-MANY : goal.returns-then-len-gt-MANY
returns-then-len-gt-MANY c =
    let ls = labels_of (case_heads (cases_shape c.args.cases.now)) in
    c.all_among.ensures ∙ among_values (map literal_shape c.as_slice.result.now) ls ∙ ap (λ s. all (is_literal (map literal_shape s)) ls) c.as_slice.ensures ∙ enum_values (type_shape c.args.disc.now) _ ls c.in-Some.ensures
