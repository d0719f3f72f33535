use Rattle.std.proofs.Common.{◌+◌, ◌∷◌, Some, None, List, map, drop, arith, ◌∙◌, subst, false}
use Rattle.tool_runs.specs.declared.output.ending.Ending.{Ending}
use Rattle.tool_runs.specs.declared.output.ending.Style.TheVariants.{Lines}
use Rattle.tool_runs.specs.output.Runs.{Leads}
use Rattle.tool_runs.proofs.OfOutput.Turning.{turn_stops}
use Rattle.tool_runs.proofs.OfOutput.Written.{leads_on}
use Rattle.tool_types.specs.declared.declaring.Declared.{Declared as Record}
use Rattle.tool_types.specs.Declaring.{declared_view}
use Rattle.tool_verdicts.specs.Versions.{findings, telling, versions}
use Rattle.tool_commands.specs.Comparing.{remaining}
use Rattle.tool_verdicts.specs.declared.versions.progress.Progress.{Progress}
use Rattle.tool_commands.proofs.OfListing.Listed.{good_record, next_record}
use Rattle.tool_commands.proofs.Told.{back_record}
use Rattle.tool_commands.proofs.comparing.compare_all.Goals as goal

pub returns-in-Err-clause-steps : goal.returns-in-Err-clause-steps
returns-in-Err-clause-steps g c =
    let q = c.args.terms.now.policy in
    let r = c.args.terms.now.rep in
    let records = c.args.records.now in
    let i = c.loop-declared.declared-index in
    let declared = c.declared-item.result in
    let next = next_record records i declared c.loop-declared-test.true c.declared-item.is in
    let first = Some (telling false (findings q r (versions 0 (map declared_view records)))) in
    let old = g.K.Sink.taken c.args.sink.now in
    let mid = g.K.Sink.taken c.loop-declared.sink in
    let new = g.K.Sink.taken c.tell_record.new.sink in
    let rest = map declared_view (drop (i + 1) records) in
    let before = c.loop-declared.progress in
    let lead = subst (λ (l : List Record). Leads first (Some (remaining q r before c.loop-declared.number (map declared_view l))) old mid) next c.loop-declared.invariant.lines in
    turn_stops Progress Ending Lines first (Some (remaining q r before c.loop-declared.number (map declared_view (declared ∷ drop (i + 1) records)))) None None c.in-Err.stop old mid new lead (c.in-Err.ensures.steps rest)

pub loop-declared-preserved : goal.loop-declared-preserved
loop-declared-preserved g c =
    let q = c.args.terms.now.policy in
    let r = c.args.terms.now.rep in
    let records = c.args.records.now in
    let i = c.loop-declared.declared-index in
    let declared = c.declared-item.result in
    let next = next_record records i declared c.loop-declared-test.true c.declared-item.is in
    let first = Some (telling false (findings q r (versions 0 (map declared_view records)))) in
    let old = g.K.Sink.taken c.args.sink.now in
    let mid = g.K.Sink.taken c.loop-declared.sink in
    let new = g.K.Sink.taken c.tell_record.new.sink in
    let rest = map declared_view (drop (i + 1) records) in
    let before = c.loop-declared.progress in
    let lead = subst (λ (l : List Record). Leads first (Some (remaining q r before c.loop-declared.number (map declared_view l))) old mid) next c.loop-declared.invariant.lines in
    record {
      good = (good_record records i declared next c.loop-declared.invariant.good).1;
      back = (back_record c.args.pool.now records i declared next c.loop-declared.invariant.back).1;
      older = c.in-Ok.ensures.older;
      count = omega (arith, c.loop-declared.invariant.count);
      lines = leads_on first (Some (remaining q r before c.loop-declared.number (map declared_view (declared ∷ drop (i + 1) records)))) (Some (remaining q r c.in-Ok.next (c.loop-declared.number + 1) rest)) old mid new lead (c.in-Ok.ensures.steps rest);
      later = omega (arith, c.loop-declared.invariant.later, c.in-Ok.ensures.stops.later);
      same = c.in-Ok.ensures.same ∙ c.loop-declared.invariant.same;
    }
