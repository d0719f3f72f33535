use Rattle.std.proofs.Common.{◌≡◌, false, length}
use Rattle.std.specs.List.{All}
use Rattle.xt_io.specs.MemoryDoors.{is_out}
use Rattle.library_tests.proofs.workers.seats.Given as goal

abbrev pub invariant-loop-number : goal.invariant-loop-number
invariant-loop-number l = record {
  count : length l.seats ≡ l.number-index;
  none_out : All (λ seat. is_out seat.door.out seat.door.at seat.door.turns ≡ false) l.seats;
  registry : All (λ seat. seat.pass.registry ≡ l.registry) l.seats;
}
