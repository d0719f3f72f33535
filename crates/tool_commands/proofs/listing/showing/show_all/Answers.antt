use Rattle.std.proofs.Common.{◌+◌, Some, List, map, drop, arith, ◌∙◌, subst}
use Rattle.tool_runs.specs.declared.output.ending.Style.TheVariants.{Lines}
use Rattle.tool_runs.specs.output.Outputs.{after_pieces, finished}
use Rattle.tool_runs.specs.output.Runs.{Leads}
use Rattle.tool_runs.proofs.OfOutput.Turning.{turn_stops}
use Rattle.tool_runs.proofs.OfOutput.Written.{leads_on}
use Rattle.tool_runs.specs.Commands.{only}
use Rattle.tool_types.specs.declared.declaring.Declared.{Declared as Record}
use Rattle.tool_types.specs.Declaring.{declared_view}
use Rattle.tool_commands.specs.listing.Listing.{all_shown, shown}
use Rattle.tool_commands.proofs.OfListing.Listed.{good_record, next_record}
use Rattle.tool_commands.proofs.listing.showing.show_all.Goals as goal

pub returns-in-Err-clause-steps : goal.returns-in-Err-clause-steps
returns-in-Err-clause-steps g c =
    let records = c.args.records.now in
    let i = c.loop-declared.declared-index in
    let declared = c.declared-item.result in
    let next = next_record records i declared c.loop-declared-test.true c.declared-item.is in
    let first = Some (only (all_shown (map declared_view records))) in
    let old = g.K.Sink.taken c.args.sink.now in
    let mid = g.K.Sink.taken c.loop-declared.sink in
    let new = g.K.Sink.taken c.show_one.new.sink in
    let rest = only (all_shown (map declared_view (drop (i + 1) records))) in
    let lead = subst (λ (l : List Record). Leads first (Some (only (all_shown (map declared_view l)))) old mid) next c.loop-declared.invariant.lines in
    turn_stops (Unit {0}) (Unit {0}) Lines first (Some (after_pieces (shown (declared_view declared)) rest)) (Some rest) (Some finished) c.in-Err.stop old mid new lead (c.in-Err.ensures.steps rest)

pub loop-declared-preserved : goal.loop-declared-preserved
loop-declared-preserved g c =
    let records = c.args.records.now in
    let i = c.loop-declared.declared-index in
    let declared = c.declared-item.result in
    let next = next_record records i declared c.loop-declared-test.true c.declared-item.is in
    let first = Some (only (all_shown (map declared_view records))) in
    let old = g.K.Sink.taken c.args.sink.now in
    let mid = g.K.Sink.taken c.loop-declared.sink in
    let new = g.K.Sink.taken c.show_one.new.sink in
    let rest = only (all_shown (map declared_view (drop (i + 1) records))) in
    let lead = subst (λ (l : List Record). Leads first (Some (only (all_shown (map declared_view l)))) old mid) next c.loop-declared.invariant.lines in
    record {
      good = (good_record records i declared next c.loop-declared.invariant.good).1;
      lines = leads_on first (Some (after_pieces (shown (declared_view declared)) rest)) (Some rest) old mid new lead (c.in-Ok.ensures.steps rest);
      later = omega (arith, c.loop-declared.invariant.later, c.in-Ok.ensures.stops.later);
      same = c.in-Ok.ensures.same ∙ c.loop-declared.invariant.same;
    }
