use Rattle.std.proofs.Common.{◌≡◌, refl, ◌+◌, Some, drop, arith, sym, ap, ◌∙◌, [], ◌∷◌}
use Rattle.std.specs.Option.{option_map}
use Rattle.std.specs.Prelude.{slice_get}
use Rattle.type_trees.specs.View.{tree}
use Rattle.key_instances.specs.Caches.{value_of}
use Rattle.key_instances.proofs.Mapped.{count_of_shown, length_shown, value_of_shown}
use Rattle.tool_samples.specs.instances.Holding.{held_val, kept_in}
use Rattle.tool_runs.specs.declared.output.ending.Style.TheVariants.{Lines}
use Rattle.tool_runs.specs.output.Outputs.{after_pieces}
use Rattle.tool_runs.proofs.OfOutput.Turning.{turn_stops}
use Rattle.tool_runs.proofs.OfOutput.Written.{leads_on, leads_nowhere}
use Rattle.tool_samples.specs.instances.Instancing.{value_line, values_at}
use Rattle.tool_samples.proofs.OfInstances.Lined.{to_value, behind_values}
use Rattle.tool_samples.proofs.instances.held.LastSamples.say_values.Goals as goal

pub loop-index-init : goal.loop-index-init
loop-index-init g c = record {
  lines = λ rest. leads_nowhere (Some (after_pieces (values_at (tree c.args.self.now.ty) (slice_get (kept_in c.args.self.now) c.args.at)) rest)) (g.K.Sink.taken c.args.sink.now);
  later = omega arith;
  same = refl;
}

pub returns-in-Err-clause-steps : goal.returns-in-Err-clause-steps
returns-in-Err-clause-steps g c rest =
    let t = tree c.args.self.now.ty in
    let es = kept_in c.args.self.now in
    let at = c.args.at in
    let i = c.loop-index.index in
    let f = held_val c.args.self.now.rep t in
    let v = f c.value_at.result.now in
    let there : Some v ≡ value_of es at i = ap (option_map f) c.value_at.ensures ∙ sym (value_of_shown f c.args.self.now.cache.entries at i) in
    let lines = values_at t (slice_get es at) in
    let first = Some (after_pieces lines rest) in
    let old = g.K.Sink.taken c.args.sink.now in
    let mid = g.K.Sink.taken c.loop-index.sink in
    let new = g.K.Sink.taken c.say_value.new.sink in
    let behind = after_pieces (drop (i + 1) lines) rest in
    let lead = to_value t es at i v first rest old mid there (c.loop-index.invariant.lines rest) in
    turn_stops (Unit {0}) (Unit {0}) Lines first (Some (after_pieces (value_line t v ∷ []) behind)) (Some behind) (Some rest) c.in-Err.stop old mid new lead (c.in-Err.ensures.steps behind)

pub loop-index-preserved : goal.loop-index-preserved
loop-index-preserved g c =
    let t = tree c.args.self.now.ty in
    let es = kept_in c.args.self.now in
    let at = c.args.at in
    let i = c.loop-index.index in
    let f = held_val c.args.self.now.rep t in
    let v = f c.value_at.result.now in
    let there : Some v ≡ value_of es at i = ap (option_map f) c.value_at.ensures ∙ sym (value_of_shown f c.args.self.now.cache.entries at i) in
    let lines = values_at t (slice_get es at) in
    let old = g.K.Sink.taken c.args.sink.now in
    let mid = g.K.Sink.taken c.loop-index.sink in
    let new = g.K.Sink.taken c.say_value.new.sink in
    record {
      lines = λ rest.
          let first = Some (after_pieces lines rest) in
          let behind = after_pieces (drop (i + 1) lines) rest in
          let lead = to_value t es at i v first rest old mid there (c.loop-index.invariant.lines rest) in
          leads_on first (Some (after_pieces (value_line t v ∷ []) behind)) (Some behind) old mid new lead (c.in-Ok.ensures.steps behind);
      later = omega (arith, c.loop-index.invariant.later, c.in-Ok.ensures.stops.later);
      same = c.in-Ok.ensures.same ∙ c.loop-index.invariant.same;
    }

pub returns-clause-steps : goal.returns-clause-steps
returns-clause-steps g c rest =
    let t = tree c.args.self.now.ty in
    let es = kept_in c.args.self.now in
    let lines = values_at t (slice_get es c.args.at) in
    let count = c.count_at-index-end.ensures ∙ sym (count_of_shown (held_val c.args.self.now.rep t) c.args.self.now.cache.entries c.args.at) in
    behind_values t es c.args.at c.count_at-index-end.result c.loop-index.index (Some (after_pieces lines rest)) rest (g.K.Sink.taken c.args.sink.now) (g.K.Sink.taken c.loop-index.sink) count (omega (arith, c.loop-index-test.false)) (c.loop-index.invariant.lines rest)

pub count_at-index-end-requires : goal.count_at-index-end-requires
count_at-index-end-requires g c =
    let self = c.args.self.now in
    omega (arith, c.requires, length_shown (held_val self.rep (tree self.ty)) self.cache.entries)
