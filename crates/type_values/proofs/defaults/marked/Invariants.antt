use Rattle.std.proofs.Common.{◌≡◌, drop, map}
use Rattle.xt_shapes.specs.Defaults.{marked}
use Rattle.type_trees.specs.Bridge.{literal_shape}
use Rattle.type_values.proofs.defaults.marked.Given as goal

abbrev pub invariant-loop-literal : goal.invariant-loop-literal
invariant-loop-literal l = marked (map literal_shape (drop l.literal-index l.literals)) ≡ marked (map literal_shape l.literals)
