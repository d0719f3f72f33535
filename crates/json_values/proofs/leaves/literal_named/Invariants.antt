use Rattle.std.proofs.Common.{◌≡◌, drop}
use Rattle.json_values.specs.Indices.{value_named}
use Rattle.json_values.proofs.leaves.literal_named.Given as goal

abbrev pub invariant-loop-literal : goal.invariant-loop-literal
invariant-loop-literal l = value_named (drop l.literal-index l.literals) l.text ≡ value_named l.literals l.text
