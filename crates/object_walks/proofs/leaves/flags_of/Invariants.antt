use Rattle.std.proofs.Common.{◌≡◌, take, map}
use Rattle.object_walks.specs.Resolving.{flag_of}
use Rattle.object_walks.proofs.leaves.flags_of.Given as goal

abbrev pub invariant-loop-flag : goal.invariant-loop-flag
invariant-loop-flag l = l.row ≡ map flag_of (take l.flag-index l.flags)
