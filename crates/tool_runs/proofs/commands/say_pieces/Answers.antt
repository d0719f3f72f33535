use Rattle.std.proofs.Common.{◌≡◌, ap, rules, Err}
use Rattle.std.specs.Io.KnownBytes.{Appends}
use Rattle.xt_io.specs.Outside.{AppendsPrefix}
use Rattle.tool_runs.specs.declared.output.halt.Halt.{Halt}
use Rattle.tool_runs.specs.declared.output.halt.Halt.TheVariants.{ReadFault}
use Rattle.tool_runs.proofs.Joined.{pieces_went, pieces_stayed}
use Rattle.tool_runs.proofs.commands.say_pieces.Goals as goal

pub returns-in-Ok-clause-steps : goal.returns-in-Ok-clause-steps
returns-in-Ok-clause-steps g c style pieces rest whole =
    let text : Appends (g.K.Sink.taken c.args.sink.now) (g.K.Sink.taken c.say.new.sink) c.args.text.now = search rules in
    pieces_went pieces rest c.args.text.now (g.K.Sink.taken c.args.sink.now) (g.K.Sink.taken c.say.new.sink) whole text

pub returns-in-Err-clause-steps : goal.returns-in-Err-clause-steps
returns-in-Err-clause-steps g c style pieces rest whole =
    let part : AppendsPrefix (g.K.Sink.taken c.args.sink.now) (g.K.Sink.taken c.say.new.sink) c.args.text.now = search rules in
    let no_read = λ (h : c.in-Err.halt ≡ ReadFault). c.in-Err.ensures.halts.no_read (ap (λ (e : Halt). Err e) h) in
    pieces_stayed pieces rest c.args.text.now c.in-Err.halt (g.K.Sink.taken c.args.sink.now) (g.K.Sink.taken c.say.new.sink) whole part no_read
