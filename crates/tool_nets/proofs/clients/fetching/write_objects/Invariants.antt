use Rattle.std.proofs.Common.{◌≡◌, ◌≤◌}
use Rattle.tool_nets.specs.clients.Lines.{object_record}
use Rattle.tool_nets.proofs.OfClients.Pieces.{SaidUpTo}
use Rattle.tool_nets.proofs.clients.fetching.write_objects.Given as goal

abbrev pub invariant-loop-index : goal.invariant-loop-index
invariant-loop-index g l = record {
  said : SaidUpTo object_record l.objects l.index (g.K.Sink.taken l.initial.sink) (g.K.Sink.taken l.sink);
  later : g.K.Sink.faults l.initial.sink ≤ g.K.Sink.faults l.sink;
  same : g.K.Sink.name l.sink ≡ g.K.Sink.name l.initial.sink;
}
