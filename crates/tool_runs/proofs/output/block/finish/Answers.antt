use Rattle.std.proofs.Common.{ℕ}
use Rattle.std.specs.declared.option.Option.TheVariants.{None}
use Rattle.tool_runs.specs.output.Blocks.{held}
use Rattle.tool_runs.specs.output.Runs.{at_number}
use Rattle.tool_runs.proofs.OfOutput.Gathering.{steps_cut}
use Rattle.tool_runs.proofs.output.block.finish.Goals as goal

pub returns-in-Err-clause-finishes : goal.returns-in-Err-clause-finishes
returns-in-Err-clause-finishes g c style first more start grew p =
    steps_cut ℕ style first (at_number more c.args.ran) None c.args.ran start (g.K.Sink.taken c.args.sink.now) (g.K.Sink.taken c.hand_on.new.sink) (held c.args.block) grew c.in-Err.ensures.prefix p
