use Rattle.std.proofs.Common.{◌≤◌, ℕ, ◌+◌, Result, Err, None, OnOk, arith, ◌∙◌, subst}
use Rattle.std.specs.Option.{option_map}
use Rattle.xt_io.specs.Bundles.{only_fault}
use Rattle.tool_runs.specs.declared.output.stop.Stop.{Stop}
use Rattle.tool_runs.specs.declared.output.turns.Next.{Next}
use Rattle.tool_runs.specs.declared.output.turns.Next.TheVariants.{Record, Broken}
use Rattle.tool_runs.specs.output.Outputs.{broken}
use Rattle.tool_runs.specs.output.Runs.{Leads, Steps, GoesOn, coming, turns_left}
use Rattle.tool_runs.proofs.OfOutput.Written.{leads_on}
use Rattle.tool_runs.specs.output.Blocks.{held, reached}
use Rattle.tool_runs.proofs.OfOutput.Turning.{steps_on, turn_stops, refuses_here, turn_on}
use Rattle.tool_runs.proofs.OfOutput.Gathering.{gathered_goes, gathered_halts, grew_some}
use Rattle.tool_runs.proofs.output.turns.gather_body.Goals as goal

pub returns-in-Broken-clause-steps : goal.returns-in-Broken-clause-steps
returns-in-Broken-clause-steps g c =
    let style = g.T.Turns.style in
    let first = option_map (g.T.Turns.to_write c.args.turns.now c.args.number) (coming c.args.begun c.args.reader) in
    let f = g.T.Turns.to_write c.records.turns c.records.at in
    let old = g.K.Sink.taken c.args.sink.now in
    let now = reached (g.K.Sink.taken c.records.sink) (held c.records.block) in
    let lead = subst (λ (n : Next). Leads first (option_map f (coming n c.records.reader)) old now) c.in-Broken.is c.records.invariant.lines in
    steps_on {T = ℕ} style first (option_map f (coming (Broken c.in-Broken.fault) c.records.reader)) None (Err c.refuse_fault.result) old now now lead
    (refuses_here ℕ style (f (only_fault c.in-Broken.fault)) None (broken c.in-Broken.fault) c.refuse_fault.result now (g.met.T.Turns.at_fault c.records.turns c.records.at c.in-Broken.fault) c.refuse_fault.ensures)

pub returns-in-Err-clause-steps : goal.returns-in-Err-clause-steps
returns-in-Err-clause-steps g c =
    let style = g.T.Turns.style in
    let first = option_map (g.T.Turns.to_write c.args.turns.now c.args.number) (coming c.args.begun c.args.reader) in
    let f = g.T.Turns.to_write c.records.turns c.records.at in
    let rest = option_map (g.T.Turns.to_write c.gather_turn-back.new.turns (c.records.at + 1)) c.gather_turn-back.result.0.ahead in
    let old = g.K.Sink.taken c.args.sink.now in
    let mid = reached (g.K.Sink.taken c.records.sink) (held c.records.block) in
    let now = reached (g.K.Sink.taken c.records.sink) (held c.gather_turn-back.new.block) in
    let middle = option_map f (coming (Record c.in-Record.head) c.records.reader) in
    let lead = subst (λ (n : Next). Leads first (option_map f (coming n c.records.reader)) old mid) c.in-Record.is c.records.invariant.lines in
    let step = subst (λ (r : Result (Unit {0}) Stop). Steps {T = Unit {0}} style middle rest r mid now) c.in-Err.is (c.gather_turn-back.ensures.steps (g.K.Sink.taken c.records.sink)) in
    turn_stops (Unit {0}) ℕ style first middle rest None c.in-Err.stop old mid now lead step

pub returns-in-Err-next_gathered-clause-steps : goal.returns-in-Err-next_gathered-clause-steps
returns-in-Err-next_gathered-clause-steps g c =
    let style = g.T.Turns.style in
    let first = option_map (g.T.Turns.to_write c.args.turns.now c.args.number) (coming c.args.begun c.args.reader) in
    let f = g.T.Turns.to_write c.records.turns c.records.at in
    let rest = option_map (g.T.Turns.to_write c.gather_turn-back.new.turns (c.records.at + 1)) c.gather_turn-back.result.0.ahead in
    let old = g.K.Sink.taken c.args.sink.now in
    let mid = reached (g.K.Sink.taken c.records.sink) (held c.records.block) in
    let now = reached (g.K.Sink.taken c.records.sink) (held c.gather_turn-back.new.block) in
    let middle = option_map f (coming (Record c.in-Record.head) c.records.reader) in
    let lead = subst (λ (n : Next). Leads first (option_map f (coming n c.records.reader)) old mid) c.in-Record.is c.records.invariant.lines in
    let step = subst (λ (r : Result (Unit {0}) Stop). Steps {T = Unit {0}} style middle rest r mid now) c.in_default.is (c.gather_turn-back.ensures.steps (g.K.Sink.taken c.records.sink)) in
    gathered_halts style first rest c.in-Err-next_gathered.halt old (g.K.Sink.taken c.records.sink) (g.K.Sink.taken c.next_gathered.new.sink) (held c.gather_turn-back.new.block) (held c.next_gathered.new.block) c.records.invariant.grew c.in-Err-next_gathered.ensures.hands_on (leads_on first middle rest old mid now lead step)

pub returns-in-Err-next_gathered-clause-grew : goal.returns-in-Err-next_gathered-clause-grew
returns-in-Err-next_gathered-clause-grew g c =
    grew_some _ (g.K.Sink.taken c.records.sink) _ (held c.gather_turn-back.new.block) c.records.invariant.grew c.in-Err-next_gathered.ensures.hands_on.some

pub records-preserved : goal.records-preserved
records-preserved g c =
    let style = g.T.Turns.style in
    let first = option_map (g.T.Turns.to_write c.args.turns.now c.args.number) (coming c.args.begun c.args.reader) in
    let f = g.T.Turns.to_write c.records.turns c.records.at in
    let h = g.T.Turns.to_write c.gather_turn-back.new.turns (c.records.at + 1) in
    let rest = option_map h c.gather_turn-back.result.0.ahead in
    let old = g.K.Sink.taken c.args.sink.now in
    let mid = reached (g.K.Sink.taken c.records.sink) (held c.records.block) in
    let now = reached (g.K.Sink.taken c.records.sink) (held c.gather_turn-back.new.block) in
    let middle = option_map f (coming (Record c.in-Record.head) c.records.reader) in
    let lead = subst (λ (n : Next). Leads first (option_map f (coming n c.records.reader)) old mid) c.in-Record.is c.records.invariant.lines in
    let step = subst (λ (r : Result (Unit {0}) Stop). Steps {T = Unit {0}} style middle rest r mid now) c.in_default.is (c.gather_turn-back.ensures.steps (g.K.Sink.taken c.records.sink)) in
    let on = subst (λ (r : Result (Unit {0}) Stop). OnOk r (GoesOn c.records.reader c.gather_turn-back.result.0)) c.in_default.is c.gather_turn-back.ensures.on in
    let few = subst (λ (n : Next). c.records.at + turns_left n c.records.reader.may_follow ≤ 1048576) c.in-Record.is c.records.invariant.few in
    let handed = c.in-Ok.ensures.hands_on in
    record {
      ready = c.in-Ok.ensures.ready;
      few = omega (arith, few, on.follow, c.in-Ok.ensures.fewer);
      lines = gathered_goes first (option_map h (coming c.in-Ok.next c.next_gathered.new.reader)) old now (reached (g.K.Sink.taken c.next_gathered.new.sink) (held c.next_gathered.new.block)) (turn_on f h first (coming (Record c.in-Record.head) c.records.reader) c.gather_turn-back.result.0.ahead (coming c.in-Ok.next c.next_gathered.new.reader) old mid now lead step c.in-Ok.ensures.coming) (handed.all (λ e. cc));
      grew = grew_some _ (g.K.Sink.taken c.records.sink) _ (held c.gather_turn-back.new.block) c.records.invariant.grew handed.some;
      source_later = omega (arith, c.records.invariant.source_later, c.gather_turn-back.ensures.stops.source_later, c.in-Ok.ensures.halts.source_later);
      sink_later = omega (arith, c.records.invariant.sink_later, c.in-Ok.ensures.halts.sink_later);
      same_source = c.in-Ok.ensures.same_source ∙ c.gather_turn-back.ensures.same ∙ c.records.invariant.same_source;
      same_sink = c.in-Ok.ensures.same_sink ∙ c.records.invariant.same_sink;
    }
