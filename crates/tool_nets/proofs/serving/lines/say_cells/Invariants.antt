use Rattle.std.proofs.Common.{◌≡◌, ◌≤◌, Some, map, drop}
use Rattle.tool_runs.specs.output.Outputs.{Output, after_pieces}
use Rattle.tool_runs.specs.output.Runs.{Leads}
use Rattle.tool_nets.specs.serving.Lines.{held_line}
use Rattle.tool_nets.proofs.serving.lines.say_cells.Given as goal

-- What was written leads to the cells that are left.
abbrev pub invariant-loop-index : goal.invariant-loop-index
invariant-loop-index g l = record {
  lines : (rest : Output) → Leads (Some (after_pieces (map held_line l.trail.held) rest)) (Some (after_pieces (map held_line (drop l.index l.trail.held)) rest)) (g.K.Sink.taken l.initial.sink) (g.K.Sink.taken l.sink);
  later : g.K.Sink.faults l.initial.sink ≤ g.K.Sink.faults l.sink;
  same : g.K.Sink.name l.sink ≡ g.K.Sink.name l.initial.sink;
}
