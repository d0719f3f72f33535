use Rattle.std.proofs.Common.{◌≡◌, drop}
use Rattle.xt_shapes.specs.Lists.{all}
use Rattle.node_rules.specs.Names.{scope_fits}
use Rattle.node_rules.proofs.nodes.scopes_fit.Given as goal

abbrev pub invariant-loop-base : goal.invariant-loop-base
invariant-loop-base l = all (λ b. scope_fits b.name) (drop l.base-index l.bases) ≡ all (λ b. scope_fits b.name) l.bases
