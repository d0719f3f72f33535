use Rattle.std.proofs.Common.{◌≤◌, length, drop}
use Rattle.json_values.specs.Indices.{HoldsTexts}
use Rattle.json_values.proofs.indices.NameIndex.new.Given as goal

-- the literals from there on are held
abbrev pub invariant-literals : goal.invariant-literals
invariant-literals l = (l.at ≤ length l.literals) × HoldsTexts (drop l.at l.literals) l.by_value

abbrev pub decreases-literals : goal.decreases-literals
decreases-literals l = l.at
