use Rattle.std.proofs.Common.{◌≡◌, drop, map}
use Rattle.type_trees.specs.Bridge.{literal_shape}
use Rattle.node_rules.specs.Rules.{any_default}
use Rattle.node_rules.proofs.literals.has_default.Given as goal

abbrev pub invariant-loop-literal : goal.invariant-loop-literal
invariant-loop-literal l = any_default (map literal_shape (drop l.literal-index l.literals)) ≡ any_default (map literal_shape l.literals)
