use Rattle.std.proofs.Common.{◌≡◌, ◌≤◌, false}
use Rattle.type_registry.specs.Passed.{Grows}
use Rattle.lookup_service.specs.workers.Served.{HoldsTurns, IsServed}
use Rattle.lookup_service.proofs.workers.turns.work.Given as goal

abbrev pub invariant-turns : goal.invariant-turns
invariant-turns g l = record {
  served : IsServed g.N.Naming.name l.sufficed l.turn l.initial.seat.pass l.seat.pass (g.D.Door.held l.initial.seat.door) (g.D.Door.held l.seat.door);
  all_turns : HoldsTurns l.turn (g.D.Door.held l.initial.seat.door) (g.D.Door.held l.seat.door);
  registry : l.seat.pass.registry ≡ l.initial.seat.pass.registry;
  grows : Grows l.initial.seat.pass l.seat.pass;
  none_out : g.D.Door.out l.seat.door ≡ false;
  later : g.D.Door.faults l.initial.seat.door ≤ g.D.Door.faults l.seat.door;
}
