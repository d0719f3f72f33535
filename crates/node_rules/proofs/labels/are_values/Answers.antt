use Rattle.std.proofs.Common.{◌∙◌, ap, map}
use Rattle.type_trees.specs.Bridge.{literal_shape, type_shape}
use Rattle.xt_shapes.specs.Lists.{all}
use Rattle.xt_shapes.specs.Select.{is_literal}
use Rattle.node_rules.proofs.Labelled.{enum_values, prim_values, no_values, other_is_none}
use Rattle.node_rules.proofs.labels.are_values.Goals as goal

pub returns-then-not-is_discriminator : goal.returns-then-not-is_discriminator
returns-then-not-is_discriminator c = c.is_empty.ensures ∙ no_values (type_shape c.args.disc.now) c.args.labels.now c.if-not-is_discriminator.ensures

pub returns-in-Some : goal.returns-in-Some
returns-in-Some c =
    c.all_literals.ensures ∙ ap (λ s. all (is_literal (map literal_shape s)) c.args.labels.now) c.as_slice.ensures ∙ enum_values (type_shape c.args.disc.now) _ c.args.labels.now c.in-Some.ensures

pub returns-in-Some-as_prim : goal.returns-in-Some-as_prim
returns-in-Some-as_prim c =
    c.all_of_prim.ensures ∙ prim_values (type_shape c.args.disc.now) _ c.args.labels.now c.in-Some-as_prim.ensures c.if-not-is_discriminator.ensures

pub returns-in-None : goal.returns-in-None
returns-in-None c =
    c.is_empty-in-None.ensures ∙ no_values (type_shape c.args.disc.now) c.args.labels.now (other_is_none (type_shape c.args.disc.now) c.in_default.ensures c.in-None.ensures)
