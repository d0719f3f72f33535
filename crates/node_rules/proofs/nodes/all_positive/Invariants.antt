use Rattle.std.proofs.Common.{◌≡◌, drop}
use Rattle.xt_shapes.specs.Lists.{all}
use Rattle.node_rules.specs.Rules.{is_positive}
use Rattle.node_rules.proofs.nodes.all_positive.Given as goal

abbrev pub invariant-loop-dim : goal.invariant-loop-dim
invariant-loop-dim l = all is_positive (drop l.dim-index l.dims) ≡ all is_positive l.dims
