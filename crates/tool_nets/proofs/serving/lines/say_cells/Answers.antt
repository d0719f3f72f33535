use Rattle.std.proofs.Common.{refl, ◌+◌, Some, map, drop, arith, ◌∙◌, [], ◌∷◌}
use Rattle.type_registry.specs.Held.{held}
use Rattle.tool_runs.specs.declared.output.ending.Style.TheVariants.{Lines}
use Rattle.tool_runs.specs.output.Outputs.{after_pieces}
use Rattle.tool_runs.proofs.OfOutput.Turning.{turn_stops}
use Rattle.tool_runs.proofs.OfOutput.Written.{leads_on, leads_nowhere}
use Rattle.tool_nets.specs.serving.Lines.{held_line}
use Rattle.tool_nets.proofs.OfServing.Told.{next_cell, behind_cells}
use Rattle.tool_nets.proofs.serving.lines.say_cells.Goals as goal

pub loop-index-init : goal.loop-index-init
loop-index-init g c = record {
  lines = λ rest. leads_nowhere (Some (after_pieces (map held_line c.args.trail.now.held) rest)) (g.K.Sink.taken c.args.sink.now);
  later = omega arith;
  same = refl;
}

pub returns-in-Err-clause-steps : goal.returns-in-Err-clause-steps
returns-in-Err-clause-steps g c rest =
    let cells = c.args.trail.now.held in
    let i = c.loop-index.index in
    let cell = held c.at-seen.result.id c.at-seen.result.octets.now in
    let first = Some (after_pieces (map held_line cells) rest) in
    let old = g.K.Sink.taken c.args.sink.now in
    let mid = g.K.Sink.taken c.loop-index.sink in
    let new = g.K.Sink.taken c.say_cell.new.sink in
    let behind = after_pieces (map held_line (drop (i + 1) cells)) rest in
    let lead = next_cell cells i cell first rest old mid c.at-seen.ensures (c.loop-index.invariant.lines rest) in
    turn_stops (Unit {0}) (Unit {0}) Lines first (Some (after_pieces (held_line cell ∷ []) behind)) (Some behind) (Some rest) c.in-Err.stop old mid new lead (c.in-Err.ensures.steps behind)

pub loop-index-preserved : goal.loop-index-preserved
loop-index-preserved g c =
    let cells = c.args.trail.now.held in
    let i = c.loop-index.index in
    let cell = held c.at-seen.result.id c.at-seen.result.octets.now in
    let old = g.K.Sink.taken c.args.sink.now in
    let mid = g.K.Sink.taken c.loop-index.sink in
    let new = g.K.Sink.taken c.say_cell.new.sink in
    record {
      lines = λ rest.
          let first = Some (after_pieces (map held_line cells) rest) in
          let behind = after_pieces (map held_line (drop (i + 1) cells)) rest in
          let lead = next_cell cells i cell first rest old mid c.at-seen.ensures (c.loop-index.invariant.lines rest) in
          leads_on first (Some (after_pieces (held_line cell ∷ []) behind)) (Some behind) old mid new lead (c.in-Ok.ensures.steps behind);
      later = omega (arith, c.loop-index.invariant.later, c.in-Ok.ensures.stops.later);
      same = c.in-Ok.ensures.same ∙ c.loop-index.invariant.same;
    }

pub returns-clause-steps : goal.returns-clause-steps
returns-clause-steps g c rest =
    let cells = c.args.trail.now.held in
    behind_cells cells c.loop-index.index (Some (after_pieces (map held_line cells) rest)) rest (g.K.Sink.taken c.args.sink.now) (g.K.Sink.taken c.loop-index.sink) (omega (arith, c.loop-index-test.false, c.len-index-end.ensures.len)) (c.loop-index.invariant.lines rest)
