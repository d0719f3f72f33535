use Rattle.std.proofs.Common.{◌+◌, Some, drop, arith, ◌∙◌}
use Rattle.std.specs.Prelude.{slice_get}
use Rattle.type_trees.specs.View.{tree}
use Rattle.key_instances.proofs.Mapped.{length_shown}
use Rattle.tool_samples.specs.instances.Holding.{held_val, kept_in}
use Rattle.tool_runs.specs.declared.output.ending.Style.TheVariants.{Lines}
use Rattle.tool_runs.specs.output.Outputs.{after_pieces, finished}
use Rattle.tool_runs.proofs.OfOutput.Turning.{turn_stops}
use Rattle.tool_runs.proofs.OfOutput.Written.{leads_on}
use Rattle.tool_samples.specs.instances.Instancing.{instances_end, lines_at}
use Rattle.tool_samples.proofs.OfInstances.Lined.{to_instance, behind_instances}
use Rattle.tool_samples.proofs.instances.held.LastSamples.say_instances.Goals as goal

pub returns-in-Err-clause-steps : goal.returns-in-Err-clause-steps
returns-in-Err-clause-steps g c =
    let t = tree c.args.self.now.ty in
    let es = kept_in c.args.self.now in
    let at = c.loop-at.at in
    let first = Some (instances_end t es) in
    let old = g.K.Sink.taken c.args.sink.now in
    let mid = g.K.Sink.taken c.loop-at.sink in
    let new = g.K.Sink.taken c.say_instance.new.sink in
    let behind = instances_end t (drop (at + 1) es) in
    let lead = to_instance t es at first old mid (omega (arith, c.loop-at-test.true, c.len-at-end.ensures, length_shown (held_val c.args.self.now.rep t) c.args.self.now.cache.entries)) c.loop-at.invariant.lines in
    turn_stops (Unit {0}) (Unit {0}) Lines first (Some (after_pieces (lines_at t (slice_get es at)) behind)) (Some behind) (Some finished) c.in-Err.stop old mid new lead (c.in-Err.ensures.steps behind)

pub loop-at-preserved : goal.loop-at-preserved
loop-at-preserved g c =
    let t = tree c.args.self.now.ty in
    let es = kept_in c.args.self.now in
    let at = c.loop-at.at in
    let first = Some (instances_end t es) in
    let old = g.K.Sink.taken c.args.sink.now in
    let mid = g.K.Sink.taken c.loop-at.sink in
    let new = g.K.Sink.taken c.say_instance.new.sink in
    let behind = instances_end t (drop (at + 1) es) in
    let lead = to_instance t es at first old mid (omega (arith, c.loop-at-test.true, c.len-at-end.ensures, length_shown (held_val c.args.self.now.rep t) c.args.self.now.cache.entries)) c.loop-at.invariant.lines in
    record {
      lines = leads_on first (Some (after_pieces (lines_at t (slice_get es at)) behind)) (Some behind) old mid new lead (c.in-Ok.ensures.steps behind);
      later = omega (arith, c.loop-at.invariant.later, c.in-Ok.ensures.stops.later);
      same = c.in-Ok.ensures.same ∙ c.loop-at.invariant.same;
    }

pub returns-clause-steps : goal.returns-clause-steps
returns-clause-steps g c =
    let t = tree c.args.self.now.ty in
    let es = kept_in c.args.self.now in
    behind_instances t es c.loop-at.at (Some (instances_end t es)) (g.K.Sink.taken c.args.sink.now) (g.K.Sink.taken c.loop-at.sink) (omega (arith, c.loop-at-test.false, c.len-at-end.ensures, length_shown (held_val c.args.self.now.rep t) c.args.self.now.cache.entries)) c.loop-at.invariant.lines
