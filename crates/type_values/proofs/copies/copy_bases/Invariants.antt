use Rattle.std.proofs.Common.{◌≡◌, take}
use Rattle.type_values.proofs.copies.copy_bases.Given as goal

abbrev pub invariant-loop-base : goal.invariant-loop-base
invariant-loop-base l = l.copy ≡ take l.base-index l.bases
