use Rattle.std.proofs.Common.{◌≡◌, ◌+◌, length, map}
use Rattle.std.specs.List.{All}
use Rattle.xt_io.specs.Links.{IsNewDoor}
use Rattle.type_object.specs.Names.{hash_of}
use Rattle.tool_nets.specs.serving.Registering.{entry_of}
use Rattle.tool_nets.specs.serving.Seats.{IsReady, Knows}
use Rattle.tool_nets.proofs.serving.doors.seats_at.Given as goal

abbrev pub invariant-doors : goal.invariant-doors
invariant-doors g l = record {
  count : length l.seats + length l.doors ≡ length l.initial.doors;
  same : length l.passes ≡ length l.doors;
  knows : All (Knows hash_of l.known.registry.now (map entry_of l.known.findings)) l.passes;
  new : All (λ door. IsNewDoor (g.D.Door.held door) (g.D.Door.out door) (g.D.Door.faults door)) l.doors;
  ready : All (λ seat. IsReady hash_of l.known.registry.now (map entry_of l.known.findings) seat.pass (g.D.Door.held seat.door) (g.D.Door.out seat.door) (g.D.Door.faults seat.door)) l.seats;
}

abbrev pub decreases-doors : goal.decreases-doors
decreases-doors g l = length l.doors
