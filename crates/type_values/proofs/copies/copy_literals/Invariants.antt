use Rattle.std.proofs.Common.{◌≡◌, take}
use Rattle.type_values.proofs.copies.copy_literals.Given as goal

abbrev pub invariant-loop-literal : goal.invariant-loop-literal
invariant-loop-literal l = l.copy ≡ take l.literal-index l.literals
