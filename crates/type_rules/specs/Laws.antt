-- Laws: a type without a fault keeps the rules at every node of its shape, and the limits (this profile's own).
use Rattle.std.specs.Prelude.{◌≡◌, ◌≤◌, IsTrue, None}
use Rattle.xt_shapes.specs.NodeRules.{rules_hold}
use Rattle.xt_shapes.specs.Weight.{weight}
use Rattle.type_trees.specs.Trees.{Tree}
use Rattle.type_trees.specs.Bridge.{shape}
use Rattle.type_trees.specs.sizes.TypeNodes.{nodes}
use Rattle.type_rules.specs.Places.{depth}
use Rattle.type_rules.specs.Valid.{type_fault}

-- Its shape keeps the rules at every node, as the laws on shapes ask.
abbrev pub ShapeKeepsRules : Type 0
ShapeKeepsRules = (t : Tree) → type_fault t ≡ None → IsTrue (rules_hold (shape t))

-- It is within the limits of depth, nodes and weight.
abbrev pub IsWithinLimits : Type 0
IsWithinLimits = (t : Tree) → type_fault t ≡ None → (depth t ≤ 16) × (nodes t ≤ 65536) × (weight (shape t) ≤ 65536)
