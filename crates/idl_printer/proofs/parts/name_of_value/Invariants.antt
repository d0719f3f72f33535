use Rattle.std.proofs.Common.{◌≡◌, drop}
use Rattle.idl_printer.specs.Parts.{name_of_value}
use Rattle.idl_printer.proofs.parts.name_of_value.Given as goal

abbrev pub invariant-loop-literal : goal.invariant-loop-literal
invariant-loop-literal l = name_of_value l.n (drop l.literal-index l.literals) ≡ name_of_value l.n l.literals
