use Rattle.std.proofs.Common.{◌≡◌, ◌≤◌, ◌+◌}
use Rattle.std.specs.Option.{option_map}
use Rattle.tool_runs.specs.output.Runs.{Leads, coming, turns_left, MayGo}
use Rattle.tool_runs.specs.output.Blocks.{held, reached, Grew}
use Rattle.tool_runs.proofs.output.turns.gather_body.Given as goal

-- What was written leads to what is still to come of the records that are left.
abbrev pub invariant-records : goal.invariant-records
invariant-records g l = record {
  ready : MayGo l.next l.reader;
  few : l.at + turns_left l.next l.reader.may_follow ≤ 1048576;
  lines : Leads (option_map (g.T.Turns.to_write l.initial.turns l.initial.at) (coming l.initial.next l.initial.reader)) (option_map (g.T.Turns.to_write l.turns l.at) (coming l.next l.reader)) (g.K.Sink.taken l.initial.sink) (reached (g.K.Sink.taken l.sink) (held l.block));
  grew : Grew (g.K.Sink.taken l.initial.sink) (g.K.Sink.taken l.sink);
  source_later : l.initial.reader.faults ≤ l.reader.faults;
  sink_later : g.K.Sink.faults l.initial.sink ≤ g.K.Sink.faults l.sink;
  same_source : l.reader.name ≡ l.initial.reader.name;
  same_sink : g.K.Sink.name l.sink ≡ g.K.Sink.name l.initial.sink;
}

abbrev pub decreases-records : goal.decreases-records
decreases-records g l = turns_left l.next l.reader.may_follow
