use Rattle.std.proofs.Common.{◌+◌, Some, ap, sym, ◌∙◌}
use Rattle.xt_io.specs.Bundles.{with_payload}
use Rattle.xt_io.specs.Readers.{inside}
use Rattle.tool_runs.specs.output.Blocks.{held}
use Rattle.tool_runs.specs.output.Runs.{both}
use Rattle.tool_runs.proofs.OfOutput.Turning.{other_turn}
use Rattle.tool_runs.proofs.output.turns.one_turn.Goals as goal

pub returns-else-takes-clause-steps : goal.returns-else-takes-clause-steps
returns-else-takes-clause-steps g c =
    let turns = c.args.turns.now in
    let number = c.args.number in
    other_turn {T = Unit {0}} g.T.Turns.style (g.T.Turns.to_write turns number) (g.T.Turns.to_write turns (number + 1)) c.args.head (both (with_payload c.args.head) (inside c.args.reader) c.args.reader.ahead) c.pass_other.result.0.ahead c.pass_other.result.1
    (Some (held c.args.block.now)) (g.met.T.Turns.at_fault turns number) (λ item more e. g.met.T.Turns.at_other turns number item more (ap g.T.Turns.kinds e ∙ sym c.takes.ensures ∙ c.if-takes.false)) c.pass_other.ensures.passes
