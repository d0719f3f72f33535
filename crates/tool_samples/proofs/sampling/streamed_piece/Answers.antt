use Rattle.std.proofs.Common.{◌≡◌, ℕ, List, Result, sym, ap, ◌∙◌}
use Rattle.xt_io.specs.Bundles.{with_payload}
use Rattle.xt_io.specs.Readers.{inside}
use Rattle.type_trees.specs.View.{tree}
use Rattle.type_trees.specs.Bridge.{type_shape}
use Rattle.settled_parts.specs.Settling.{outcome_val}
use Rattle.xt_wire.specs.cursor.Standing.{Standing}
use Rattle.xt_wire.specs.streams.Cursors.{stream_state}
use Rattle.xcdr_model.specs.declared.malformed.Fault.{Fault}
use Rattle.xcdr_model.specs.Samples.{Outcome, read_sample}
use Rattle.tool_runs.specs.output.Runs.{both}
use Rattle.tool_samples.proofs.Sampled.{along_of, again_of, not_whole, is_whole, piece_said, piece_takes}
use Rattle.tool_samples.proofs.sampling.streamed_piece.Goals as goal

pub returns-in-Err-clause-takes : goal.returns-in-Err-clause-takes
returns-in-Err-clause-takes g c =
    let a = stream_state c.new-cursor.result in
    let b = stream_state c.read_guided-read.new.cursor in
    let along = along_of a b c.read_guided-read.result c.read_guided-read.ensures.value.within in
    let name = along.name ∙ ap (λ (s : Standing). s.name) c.new-cursor.ensures in
    let whole = along.whole ∙ ap (λ (s : Standing). s.whole) c.new-cursor.ensures in
    let res = c.end-reader.ensures c.args.reader (sym name) in
    not_whole (List ℕ) c.args.head (λ text octets. Unit {0}) c.args.reader c.end-reader.result b c.pass_payload.new.self.ahead c.in-Err.fault c.stop_for.result res whole c.requires.ready.pending
    (again_of (c.pass_payload.new.self ≡ c.end-reader.result) c.end-reader.result.fault c.in-Err.fault c.in-Err.ensures.answers.again) c.in-Err.ensures.cut c.stop_for.ensures

pub returns-in-Ok-clause-takes : goal.returns-in-Ok-clause-takes
returns-in-Ok-clause-takes g c =
    let a = stream_state c.new-cursor.result in
    let b = stream_state c.read_guided-read.new.cursor in
    let t = tree c.args.ty.now in
    let along = along_of a b c.read_guided-read.result c.read_guided-read.ensures.value.within in
    let name = along.name ∙ ap (λ (s : Standing). s.name) c.new-cursor.ensures in
    let whole = along.whole ∙ ap (λ (s : Standing). s.whole) c.new-cursor.ensures in
    let res = c.end-reader.ensures c.args.reader (sym name) in
    let piece : Result Outcome Fault → List ℕ = g.F.Shows.piece c.args.form.now t in
    let P : List ℕ → List ℕ → Type 0 = λ text octets. text ≡ piece (read_sample c.args.rep (type_shape c.args.ty.now) octets) in
    piece_takes outcome_val piece c.args.head P (both (with_payload c.args.head) (inside c.args.reader) c.args.reader.ahead) c.pass_payload.new.self.ahead c.read_guided-read.result c.piece_of.result c.piece_of.ensures
    (λ text says. is_whole c.args.head (P text) c.args.reader c.end-reader.result b c.pass_payload.new.self.ahead res whole c.in-Ok.ensures.answers.unmet c.in-Ok.ensures.whole c.in-Ok.ensures.ahead
    (λ octets is len. piece_said outcome_val (read_sample c.args.rep (type_shape c.args.ty.now)) piece c.args.head.length c.args.reader a b c.read_guided-read.result text octets c.new-cursor.ensures is len c.read_guided-read.ensures.value.told says))
