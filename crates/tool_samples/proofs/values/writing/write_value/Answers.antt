use Rattle.std.proofs.Common.{◌≡◌, ap, rules, Err}
use Rattle.std.specs.Io.KnownBytes.{Appends}
use Rattle.xt_io.specs.Outside.{AppendsPrefix}
use Rattle.type_trees.specs.View.{tree}
use Rattle.json_values.specs.Read.{read_as}
use Rattle.tool_runs.specs.declared.output.halt.Halt.{Halt}
use Rattle.tool_runs.specs.declared.output.halt.Halt.TheVariants.{ReadFault}
use Rattle.tool_runs.specs.declared.output.ending.Style.TheVariants.{Records}
use Rattle.tool_samples.specs.lines.Lines.{written}
use Rattle.tool_samples.proofs.OfValues.Taken.{piece_went, piece_stayed}
use Rattle.tool_samples.proofs.values.writing.write_value.Goals as goal

pub returns-in-Ok-clause-steps : goal.returns-in-Ok-clause-steps
returns-in-Ok-clause-steps g c rest =
    let turn = written c.args.rep (tree c.args.ty.now) c.args.number (read_as (tree c.args.ty.now) c.args.payload.now) in
    let text : Appends (g.K.Sink.taken c.args.sink.now) (g.K.Sink.taken c.say.new.sink) c.in-Some.piece = search rules in
    piece_went Records turn c.in-Some.piece rest (g.K.Sink.taken c.args.sink.now) (g.K.Sink.taken c.say.new.sink) c.in-Some.ensures text

pub returns-clause-steps : goal.returns-clause-steps
returns-clause-steps g c rest =
    let turn = written c.args.rep (tree c.args.ty.now) c.args.number (read_as (tree c.args.ty.now) c.args.payload.now) in
    let part : AppendsPrefix (g.K.Sink.taken c.args.sink.now) (g.K.Sink.taken c.say.new.sink) c.in-Some.piece = search rules in
    let no_read = λ (h : c.in-Err.halt ≡ ReadFault). c.in-Err.ensures.halts.no_read (ap (λ (e : Halt). Err e) h) in
    piece_stayed Records turn c.in-Some.piece rest c.in-Err.halt (g.K.Sink.taken c.args.sink.now) (g.K.Sink.taken c.say.new.sink) c.in-Some.ensures part no_read
