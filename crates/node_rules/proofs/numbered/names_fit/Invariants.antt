use Rattle.std.proofs.Common.{◌≡◌, drop}
use Rattle.xt_shapes.specs.Lists.{all}
use Rattle.node_rules.specs.Names.{name_fits}
use Rattle.node_rules.proofs.numbered.names_fit.Given as goal

abbrev pub invariant-loop-item : goal.invariant-loop-item
invariant-loop-item g l = all (λ x. name_fits (g.T.HasName.name_of x)) (drop l.item-index l.items) ≡ all (λ x. name_fits (g.T.HasName.name_of x)) l.items
