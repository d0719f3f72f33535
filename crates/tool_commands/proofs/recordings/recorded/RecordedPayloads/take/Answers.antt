use Rattle.std.proofs.Common.{◌≡◌, ◌≤◌, ℕ, ◌+◌, length, Err, Some, ap, sym, subst}
use Rattle.xt_io.specs.declared.Kind.TheVariants.{Sample}
use Rattle.xt_io.specs.Bundles.{item_of}
use Rattle.xt_io.specs.Records.{record_octets}
use Rattle.tool_runs.specs.declared.output.ending.Style.TheVariants.{Records}
use Rattle.tool_runs.specs.declared.output.halt.Halt.{Halt}
use Rattle.tool_runs.specs.declared.output.halt.Halt.TheVariants.{ReadFault}
use Rattle.tool_runs.specs.output.Outputs.{Output, finished}
use Rattle.tool_runs.specs.output.Runs.{Leads, Writes}
use Rattle.tool_runs.proofs.OfOutput.Turning.{run_at_taken}
use Rattle.tool_runs.proofs.OfOutput.Written.{leads_piece, piece_is_cut}
use Rattle.tool_commands.specs.recordings.Recording.{record_turn, samples_recorded}
use Rattle.tool_commands.proofs.OfRecordings.Kept.{sample_limit}
use Rattle.tool_commands.proofs.recordings.recorded.RecordedPayloads.take.Goals as goal

pub write_sample-requires : goal.write_sample-requires
write_sample-requires g c = subst (λ (n : ℕ). length c.args.payload.now ≤ n) (sample_limit c.args._head.kind c.requires.taken) c.requires.size

pub returns-in-Ok-clause-steps : goal.returns-in-Ok-clause-steps
returns-in-Ok-clause-steps g c more =
    let end : Unit {0} → Output = λ u. finished in
    let rest = samples_recorded (c.args._number + 1) more in
    let old = g.K.Sink.taken c.args.sink.now in
    let new = g.K.Sink.taken c.write_sample.new.sink in
    subst (λ (o : Output). Leads (Some o) (Some rest) old new) (sym (run_at_taken Records Sample record_turn end tt c.args._number (item_of c.args._head c.args.payload.now) more c.requires.taken)) (leads_piece rest (record_octets Sample c.args.payload.now) old new c.in-Ok.ensures.whole)

pub returns-in-Err-clause-steps : goal.returns-in-Err-clause-steps
returns-in-Err-clause-steps g c more =
    let end : Unit {0} → Output = λ u. finished in
    let rest = samples_recorded (c.args._number + 1) more in
    let old = g.K.Sink.taken c.args.sink.now in
    let new = g.K.Sink.taken c.write_sample.new.sink in
    let no_read = λ (h : c.in-Err.halt ≡ ReadFault). c.in-Err.ensures.halts.no_read (ap (λ (e : Halt). Err e) h) in
    subst (λ (o : Output). Writes (Some o) (Err c.in-Err.halt) old new) (sym (run_at_taken Records Sample record_turn end tt c.args._number (item_of c.args._head c.args.payload.now) more c.requires.taken)) (piece_is_cut rest (record_octets Sample c.args.payload.now) c.in-Err.halt old new c.in-Err.ensures.prefix no_read)
