use Rattle.std.proofs.Common.{Some, Err, sym, subst}
use Rattle.std.specs.Prelude.{slice_get}
use Rattle.type_trees.specs.View.{tree}
use Rattle.tool_samples.specs.instances.Holding.{kept_in}
use Rattle.tool_runs.specs.declared.output.ending.Style.TheVariants.{Lines}
use Rattle.tool_runs.specs.output.Outputs.{Output, after_pieces}
use Rattle.tool_runs.specs.output.Runs.{Steps, Leads}
use Rattle.tool_runs.proofs.OfOutput.Turning.{steps_on, stop_on}
use Rattle.tool_samples.specs.instances.Instancing.{head_at, values_at, lines_at}
use Rattle.tool_samples.proofs.OfInstances.Lined.{to_head}
use Rattle.tool_samples.proofs.instances.held.LastSamples.say_instance.Goals as goal

pub returns-in-Ok-clause-steps : goal.returns-in-Ok-clause-steps
returns-in-Ok-clause-steps g c rest =
    let t = tree c.args.self.now.ty in
    let o = slice_get (kept_in c.args.self.now) c.args.at in
    let behind = after_pieces (values_at t o) rest in
    let old = g.K.Sink.taken c.args.sink.now in
    let mid = g.K.Sink.taken c.say_head.new.sink in
    let new = g.K.Sink.taken c.say_values.new.sink in
    let lead = subst (λ (x : Output). Leads (Some x) (Some behind) old mid) (sym (to_head t o rest)) (c.in-Ok.ensures.steps behind) in
    steps_on Lines (Some (after_pieces (lines_at t o) rest)) (Some behind) (Some rest) c.say_values.result old mid new lead (c.say_values.ensures.steps rest)

pub returns-in-Err-clause-steps : goal.returns-in-Err-clause-steps
returns-in-Err-clause-steps g c rest =
    let t = tree c.args.self.now.ty in
    let o = slice_get (kept_in c.args.self.now) c.args.at in
    let behind = after_pieces (values_at t o) rest in
    let old = g.K.Sink.taken c.args.sink.now in
    let new = g.K.Sink.taken c.say_head.new.sink in
    subst (λ (x : Output). Steps {T = Unit {0}} Lines (Some x) (Some rest) (Err c.in-Err.stop) old new) (sym (to_head t o rest)) (stop_on (Unit {0}) (Unit {0}) Lines (Some (after_pieces (head_at t o) behind)) (Some behind) (Some rest) c.in-Err.stop old new (c.in-Err.ensures.steps behind))
