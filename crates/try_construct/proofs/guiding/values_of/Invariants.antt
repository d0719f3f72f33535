use Rattle.std.proofs.Common.{◌≤◌, length, drop, map}
use Rattle.type_trees.specs.Bridge.{literal_shape}
use Rattle.try_construct.specs.Guides.{HasValues}
use Rattle.try_construct.proofs.guiding.values_of.Given as goal

-- the values of the literals from there on are held
abbrev pub invariant-literals : goal.invariant-literals
invariant-literals l = (l.at ≤ length l.literals) × HasValues (map literal_shape (drop l.at l.literals)) l.values

abbrev pub decreases-literals : goal.decreases-literals
decreases-literals l = l.at
