use Rattle.std.proofs.Common.{take}
use Rattle.idl_definitions.specs.LiteralNames.{Indexes}
use Rattle.idl_definitions.proofs.literals.places_of.Given as goal

abbrev pub invariant-loop-place : goal.invariant-loop-place
invariant-loop-place l = Indexes l.places (take l.place l.literals)
