use Rattle.std.proofs.Common.{◌+◌, Some, map, drop, arith, ◌∙◌, [], ◌∷◌}
use Rattle.tool_runs.specs.declared.output.ending.Style.TheVariants.{Records}
use Rattle.tool_runs.specs.output.Outputs.{after_pieces, finished}
use Rattle.tool_runs.proofs.OfOutput.Turning.{turn_stops}
use Rattle.tool_runs.proofs.OfOutput.Written.{leads_on}
use Rattle.tool_runs.specs.Commands.{only}
use Rattle.tool_commands.specs.listing.Listing.{object_record}
use Rattle.tool_commands.proofs.OfListing.Listed.{next_object}
use Rattle.tool_commands.proofs.listing.compiling.write_objects.Goals as goal

pub returns-in-Err-clause-steps : goal.returns-in-Err-clause-steps
returns-in-Err-clause-steps g c =
    let pool = c.args.pool.now in
    let i = c.loop-index.index in
    let id = c.at-entry.result.id in
    let octets = c.at-entry.result.octets.now in
    let first = Some (only (map object_record pool)) in
    let old = g.K.Sink.taken c.args.sink.now in
    let mid = g.K.Sink.taken c.loop-index.sink in
    let new = g.K.Sink.taken c.write_object.new.sink in
    let rest = only (map object_record (drop (i + 1) pool)) in
    let lead = next_object pool i id octets first old mid c.at-entry.ensures.entry c.loop-index.invariant.records in
    turn_stops (Unit {0}) (Unit {0}) Records first (Some (after_pieces (object_record (id, octets) ∷ []) rest)) (Some rest) (Some finished) c.in-Err.stop old mid new lead (c.in-Err.ensures.steps rest)

pub loop-index-preserved : goal.loop-index-preserved
loop-index-preserved g c =
    let pool = c.args.pool.now in
    let i = c.loop-index.index in
    let id = c.at-entry.result.id in
    let octets = c.at-entry.result.octets.now in
    let first = Some (only (map object_record pool)) in
    let old = g.K.Sink.taken c.args.sink.now in
    let mid = g.K.Sink.taken c.loop-index.sink in
    let new = g.K.Sink.taken c.write_object.new.sink in
    let rest = only (map object_record (drop (i + 1) pool)) in
    let lead = next_object pool i id octets first old mid c.at-entry.ensures.entry c.loop-index.invariant.records in
    record {
      records = leads_on first (Some (after_pieces (object_record (id, octets) ∷ []) rest)) (Some rest) old mid new lead (c.in-Ok.ensures.steps rest);
      later = omega (arith, c.loop-index.invariant.later, c.in-Ok.ensures.stops.later);
      same = c.in-Ok.ensures.same ∙ c.loop-index.invariant.same;
    }
