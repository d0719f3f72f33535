use Rattle.std.proofs.Common.{◌≡◌, ◌≤◌, Some, map, drop}
use Rattle.tool_runs.specs.output.Runs.{Leads}
use Rattle.tool_runs.specs.Commands.{only}
use Rattle.tool_commands.specs.listing.Listing.{object_record}
use Rattle.tool_commands.proofs.listing.compiling.write_objects.Given as goal

-- What was written leads to the objects that are left.
abbrev pub invariant-loop-index : goal.invariant-loop-index
invariant-loop-index g l = record {
  records : Leads (Some (only (map object_record l.pool))) (Some (only (map object_record (drop l.index l.pool)))) (g.K.Sink.taken l.initial.sink) (g.K.Sink.taken l.sink);
  later : g.K.Sink.faults l.initial.sink ≤ g.K.Sink.faults l.sink;
  same : g.K.Sink.name l.sink ≡ g.K.Sink.name l.initial.sink;
}
