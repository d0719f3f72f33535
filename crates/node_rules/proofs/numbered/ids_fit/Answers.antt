use Rattle.std.proofs.Common.{◌∙◌, ap, ◌&&◌, map, nat_eq}
use Rattle.xt_shapes.specs.NodeRules.{distinct}
use Rattle.node_rules.proofs.Mapped.{distinct_pos}
use Rattle.node_rules.proofs.numbered.ids_fit.Goals as goal

pub returns-then-ids_low : goal.returns-then-ids_low
returns-then-ids_low g c =
    c.all_distinct.ensures ∙ distinct_pos (λ x. g.T.HasId.id_of x) c.args.items.now ∙ ap (λ low. low && distinct nat_eq (map (λ x. g.T.HasId.id_of x) c.args.items.now)) c.if-ids_low.ensures
