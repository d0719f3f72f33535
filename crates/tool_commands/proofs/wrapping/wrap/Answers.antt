use Rattle.std.specs.Option.{option_map}
use Rattle.tool_runs.specs.declared.output.halt.Halt.TheVariants.{ReadFault}
use Rattle.tool_runs.proofs.OfOutput.Written.{stops_here}
use Rattle.tool_commands.specs.Wrapping.{wrapped}
use Rattle.tool_commands.proofs.wrapping.wrap.Goals as goal

pub returns-in-Err-ReadFault-clause-output : goal.returns-in-Err-ReadFault-clause-output
returns-in-Err-ReadFault-clause-output g c = stops_here (option_map (wrapped c.args.kind) (g.S.Source.left c.args.input.now)) ReadFault (g.K.Sink.taken c.args.output.now)
