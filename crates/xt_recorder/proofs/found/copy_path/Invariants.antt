use Rattle.std.proofs.Common.{◌≡◌, take}
use Rattle.xt_recorder.proofs.found.copy_path.Given as goal

abbrev pub invariant-loop-index : goal.invariant-loop-index
invariant-loop-index l = l.copy ≡ take l.index l.path
