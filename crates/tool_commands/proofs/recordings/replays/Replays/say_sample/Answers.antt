use Rattle.std.proofs.Common.{[], ◌∷◌, append-nil, sym, ap, ◌∙◌}
use Rattle.type_trees.specs.Trees.{Tree}
use Rattle.tool_runs.specs.declared.output.ending.Style.TheVariants.{Lines}
use Rattle.tool_samples.specs.lines.Lines.{sample_line}
use Rattle.xt_recorder.specs.Replaying.{reader_of}
use Rattle.tool_commands.proofs.recordings.replays.Replays.say_sample.Goals as goal

pub returns-in-Ok-clause-steps : goal.returns-in-Ok-clause-steps
returns-in-Ok-clause-steps g c rest =
    let line = sample_line c.args.rep (reader_of c.args.self.now.replayer) c.args.payload.now in
    let read = ap (λ (t : Tree). sample_line c.args.rep t c.args.payload.now) c.reader.ensures.reader in
    c.say_pieces.ensures.steps Lines (line ∷ []) rest (c.octets.ensures ∙ c.in-Ok.ensures ∙ read ∙ sym (append-nil line))
