use Rattle.std.proofs.Common.{◌≡◌, take}
use Rattle.tool_nets.specs.clients.Clients.{objects_in}
use Rattle.tool_nets.proofs.clients.mirroring.objects_of.Given as goal

abbrev pub invariant-loop-index : goal.invariant-loop-index
invariant-loop-index l = l.objects ≡ objects_in (take l.index l.pool)
