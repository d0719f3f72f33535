use Rattle.std.proofs.Common.{◌≡◌, take, map}
use Rattle.type_resolve.specs.Objects as spec
use Rattle.type_resolve.proofs.parts.literal_parts.Given as goal

abbrev pub invariant-loop-literal : goal.invariant-loop-literal
invariant-loop-literal l = l.row ≡ map (spec.literal_part l.complete) (take l.literal-index l.literals)
