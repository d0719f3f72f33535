use Rattle.std.proofs.Common.{◌≡◌, ◌≤◌, Some, drop}
use Rattle.type_trees.specs.View.{tree}
use Rattle.tool_samples.specs.instances.Holding.{kept_in}
use Rattle.tool_runs.specs.output.Runs.{Leads}
use Rattle.tool_samples.specs.instances.Instancing.{instances_end}
use Rattle.tool_samples.proofs.instances.held.LastSamples.say_instances.Given as goal

-- What was written leads to the instances that are left.
abbrev pub invariant-loop-at : goal.invariant-loop-at
invariant-loop-at g l =
    let es = kept_in l.self in
    let t = tree l.self.ty in
    record {
      lines : Leads (Some (instances_end t es)) (Some (instances_end t (drop l.at es))) (g.K.Sink.taken l.initial.sink) (g.K.Sink.taken l.sink);
      later : g.K.Sink.faults l.initial.sink ≤ g.K.Sink.faults l.sink;
      same : g.K.Sink.name l.sink ≡ g.K.Sink.name l.initial.sink;
    }
