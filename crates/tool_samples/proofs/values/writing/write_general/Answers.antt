use Rattle.std.proofs.Common.{◌≡◌, ap, rules, Err, List, ℕ}
use Rattle.std.specs.Io.KnownBytes.{Appends}
use Rattle.xt_io.specs.Outside.{AppendsPrefix}
use Rattle.xt_shapes.specs.declared.leaves.Order.TheVariants.{Little}
use Rattle.xt_io.specs.declared.Kind.TheVariants.{Sample}
use Rattle.xt_io.specs.Records.{record_octets}
use Rattle.type_trees.specs.Bridge.{shape}
use Rattle.type_trees.specs.View.{tree, val}
use Rattle.xcdr_model.specs.SampleSpelling.{fixed_sample}
use Rattle.json_values.specs.Read.{read_as}
use Rattle.tool_runs.specs.declared.output.halt.Halt.{Halt}
use Rattle.tool_runs.specs.declared.output.halt.Halt.TheVariants.{ReadFault}
use Rattle.tool_runs.specs.declared.output.ending.Style.TheVariants.{Records}
use Rattle.tool_samples.specs.lines.Lines.{written}
use Rattle.tool_samples.proofs.OfValues.Taken.{piece_went, piece_stayed, no_piece}
use Rattle.tool_samples.proofs.values.writing.write_general.Goals as goal

pub returns-in-Err-clause-steps : goal.returns-in-Err-clause-steps
returns-in-Err-clause-steps g c rest =
    no_piece (Unit {0}) Records (written c.args.rep (tree c.args.ty.now) c.args.number (read_as (tree c.args.ty.now) c.args.payload.now)) rest c.in-Err.stop (g.K.Sink.taken c.args.sink.now) c.in-Err.ensures

pub returns-in-Ok-say_sample-clause-steps : goal.returns-in-Ok-say_sample-clause-steps
returns-in-Ok-say_sample-clause-steps g c rest =
    let piece : List ℕ = record_octets Sample (fixed_sample c.args.rep Little (shape (tree c.args.ty.now)) (val c.in-Ok.value)) in
    let text : Appends (g.K.Sink.taken c.args.sink.now) (g.K.Sink.taken c.say_sample.new.sink) piece = search rules in
    piece_went Records (written c.args.rep (tree c.args.ty.now) c.args.number (read_as (tree c.args.ty.now) c.args.payload.now)) piece rest (g.K.Sink.taken c.args.sink.now) (g.K.Sink.taken c.say_sample.new.sink) c.in-Ok.ensures.0 text

pub returns-clause-steps : goal.returns-clause-steps
returns-clause-steps g c rest =
    let piece : List ℕ = record_octets Sample (fixed_sample c.args.rep Little (shape (tree c.args.ty.now)) (val c.in-Ok.value)) in
    let part : AppendsPrefix (g.K.Sink.taken c.args.sink.now) (g.K.Sink.taken c.say_sample.new.sink) piece = search rules in
    let no_read = λ (h : c.in-Err-say_sample.halt ≡ ReadFault). c.in-Err-say_sample.ensures.halts.no_read (ap (λ (e : Halt). Err e) h) in
    piece_stayed Records (written c.args.rep (tree c.args.ty.now) c.args.number (read_as (tree c.args.ty.now) c.args.payload.now)) piece rest c.in-Err-say_sample.halt (g.K.Sink.taken c.args.sink.now) (g.K.Sink.taken c.say_sample.new.sink) c.in-Ok.ensures.0 part no_read
