use Rattle.std.proofs.Common.{◌≤◌, length, drop}
use Rattle.type_trees.specs.View.{members_tree}
use Rattle.json_values.specs.Indices.{HoldsNames}
use Rattle.json_values.proofs.indices.names_of.Given as goal

-- the members from there on are held
abbrev pub invariant-members : goal.invariant-members
invariant-members l = (l.at ≤ length l.members) × HoldsNames (members_tree (drop l.at l.members)) l.names

abbrev pub decreases-members : goal.decreases-members
decreases-members l = l.at
