use Rattle.std.proofs.Common.{Some}
use Rattle.tool_runs.specs.declared.output.ending.Style.TheVariants.{Lines}
use Rattle.tool_runs.specs.output.Outputs.{refused}
use Rattle.tool_runs.proofs.OfOutput.Written.{writes_on}
use Rattle.tool_runs.proofs.Joined.{concluded}
use Rattle.tool_nets.specs.serving.Lines.{full_output, full_text, types_refusal}
use Rattle.tool_nets.proofs.serving.lines.say_full.Goals as goal

pub returns-in-Ok-clause-ends : goal.returns-in-Ok-clause-ends
returns-in-Ok-clause-ends g c =
    let end = refused Lines (types_refusal (full_text c.args.id)) in
    writes_on (Some (full_output c.args.id c.args.trail.now.held)) (Some end) c.say_full_end.result (g.K.Sink.taken c.args.sink.now) (g.K.Sink.taken c.say_cells.new.sink) (g.K.Sink.taken c.say_full_end.new.sink) (c.in-Ok.ensures.steps end) c.say_full_end.ensures.ends

pub returns-in-Err-clause-ends : goal.returns-in-Err-clause-ends
returns-in-Err-clause-ends g c =
    let end = refused Lines (types_refusal (full_text c.args.id)) in
    concluded (Unit {0}) Lines (Some (full_output c.args.id c.args.trail.now.held)) (Some end) c.in-Err.stop c.stopped.result (g.K.Sink.taken c.args.sink.now) (g.K.Sink.taken c.say_cells.new.sink) (g.K.Sink.taken c.stopped.new.sink) (c.in-Err.ensures.steps end) c.stopped.ensures.concludes
