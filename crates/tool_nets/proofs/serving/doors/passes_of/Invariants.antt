use Rattle.std.proofs.Common.{◌≡◌, length, map}
use Rattle.std.specs.List.{All}
use Rattle.type_object.specs.Names.{hash_of}
use Rattle.tool_nets.specs.serving.Registering.{entry_of}
use Rattle.tool_nets.specs.serving.Seats.{Knows}
use Rattle.tool_nets.proofs.serving.doors.passes_of.Given as goal

-- So many passes, each of which knows all.
abbrev pub invariant-loop-seat : goal.invariant-loop-seat
invariant-loop-seat l = record {
  count : length l.passes ≡ l._seat;
  knows : All (Knows hash_of l.known.registry.now (map entry_of l.known.findings)) l.passes;
}
