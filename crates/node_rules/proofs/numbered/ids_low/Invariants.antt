use Rattle.std.proofs.Common.{◌≡◌, drop, map}
use Rattle.xt_shapes.specs.Lists.{all}
use Rattle.xt_shapes.specs.NodeRules.{is_low}
use Rattle.node_rules.proofs.numbered.ids_low.Given as goal

abbrev pub invariant-loop-item : goal.invariant-loop-item
invariant-loop-item g l = all is_low (map (λ x. g.T.HasId.id_of x) (drop l.item-index l.items)) ≡ all is_low (map (λ x. g.T.HasId.id_of x) l.items)
