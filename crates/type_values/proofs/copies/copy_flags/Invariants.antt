use Rattle.std.proofs.Common.{◌≡◌, take}
use Rattle.type_values.proofs.copies.copy_flags.Given as goal

abbrev pub invariant-loop-flag : goal.invariant-loop-flag
invariant-loop-flag l = l.copy ≡ take l.flag-index l.flags
