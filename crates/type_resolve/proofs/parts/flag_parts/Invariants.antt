use Rattle.std.proofs.Common.{◌≡◌, take, map}
use Rattle.type_resolve.specs.Objects as spec
use Rattle.type_resolve.proofs.parts.flag_parts.Given as goal

abbrev pub invariant-loop-flag : goal.invariant-loop-flag
invariant-loop-flag l = l.row ≡ map (spec.flag_part l.complete) (take l.flag-index l.flags)
