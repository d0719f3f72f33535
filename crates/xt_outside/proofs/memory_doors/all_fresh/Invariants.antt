use Rattle.std.proofs.Common.{take}
use Rattle.std.specs.List.{All}
use Rattle.xt_outside.specs.MemoryDoors.{IsFresh}
use Rattle.xt_outside.proofs.memory_doors.all_fresh.Given as goal

-- The doors so far were not used.
abbrev pub invariant-loop-door : goal.invariant-loop-door
invariant-loop-door l = All IsFresh (take l.door-index l.doors)
