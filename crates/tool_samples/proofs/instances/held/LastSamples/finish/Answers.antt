use Rattle.std.proofs.Common.{Some, sym, subst}
use Rattle.xt_io.specs.declared.Kind.TheVariants.{Sample}
use Rattle.type_trees.specs.View.{tree}
use Rattle.tool_samples.specs.instances.Holding.{kept_in}
use Rattle.tool_runs.specs.declared.output.ending.Style.TheVariants.{Lines}
use Rattle.tool_runs.specs.output.Outputs.{Output, finished, taking}
use Rattle.tool_runs.specs.output.Runs.{Steps}
use Rattle.tool_runs.proofs.OfOutput.Turning.{run_at_end}
use Rattle.tool_samples.specs.instances.Instancing.{instances_turn, instances_end}
use Rattle.tool_samples.proofs.instances.held.LastSamples.finish.Goals as goal

pub returns-clause-steps : goal.returns-clause-steps
returns-clause-steps g c number =
    let self = c.args.self.now in
    let t = tree self.ty in
    let last = run_at_end Lines (taking Sample (instances_turn self.cache.depth self.rep t)) (instances_end t) (kept_in self) number in
    subst (λ (o : Output). Steps Lines (Some o) (Some finished) c.say_instances.result (g.K.Sink.taken c.args.sink.now) (g.K.Sink.taken c.say_instances.new.sink)) (sym last) c.say_instances.ensures.steps
