use Rattle.std.proofs.Common.{◌≡◌, ◌++◌, drop}
use Rattle.idl_printer.specs.Parts.{more_literals}
use Rattle.idl_printer.proofs.parts.more_literals.Given as goal

abbrev pub invariant-loop-literal : goal.invariant-loop-literal
invariant-loop-literal l = l.out ++ more_literals (drop l.literal-index l.literals) ≡ l.initial.out ++ more_literals l.literals
