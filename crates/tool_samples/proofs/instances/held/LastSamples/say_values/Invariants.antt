use Rattle.std.proofs.Common.{◌≡◌, ◌≤◌, Some, drop}
use Rattle.std.specs.Prelude.{slice_get}
use Rattle.type_trees.specs.View.{tree}
use Rattle.tool_samples.specs.instances.Holding.{kept_in}
use Rattle.tool_runs.specs.output.Outputs.{Output, after_pieces}
use Rattle.tool_runs.specs.output.Runs.{Leads}
use Rattle.tool_samples.specs.instances.Instancing.{values_at}
use Rattle.tool_samples.proofs.instances.held.LastSamples.say_values.Given as goal

-- What was written leads to the values that are left.
abbrev pub invariant-loop-index : goal.invariant-loop-index
invariant-loop-index g l =
    let lines = values_at (tree l.self.ty) (slice_get (kept_in l.self) l.at) in
    record {
      lines : (rest : Output) → Leads (Some (after_pieces lines rest)) (Some (after_pieces (drop l.index lines) rest)) (g.K.Sink.taken l.initial.sink) (g.K.Sink.taken l.sink);
      later : g.K.Sink.faults l.initial.sink ≤ g.K.Sink.faults l.sink;
      same : g.K.Sink.name l.sink ≡ g.K.Sink.name l.initial.sink;
    }
