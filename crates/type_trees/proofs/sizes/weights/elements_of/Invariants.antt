use Rattle.std.proofs.Common.{◌≡◌, ◌*◌, ◌≤◌, min, drop}
use Rattle.xt_shapes.specs.Shape.{product}
use Rattle.type_trees.proofs.sizes.weights.elements_of.Given as goal

abbrev pub invariant-loop-dim : goal.invariant-loop-dim
invariant-loop-dim l = (min 18446744073709551615 (l.count * product (drop l.dim-index l.dims)) ≡ min 18446744073709551615 (product l.dims)) × (l.count ≤ 18446744073709551615)
