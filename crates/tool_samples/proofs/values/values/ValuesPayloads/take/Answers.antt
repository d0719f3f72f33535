use Rattle.std.proofs.Common.{ℕ, ◌+◌, Some, sym, subst}
use Rattle.xt_io.specs.declared.Item.{Item}
use Rattle.xt_io.specs.declared.Kind.TheVariants.{Json}
use Rattle.xt_io.specs.Bundles.{item_of}
use Rattle.type_trees.specs.View.{tree}
use Rattle.tool_runs.specs.declared.output.ending.Style.TheVariants.{Records}
use Rattle.tool_runs.specs.output.Outputs.{Output, Turn, run, taking, finished}
use Rattle.tool_runs.specs.output.Runs.{Steps}
use Rattle.tool_runs.proofs.OfOutput.Turning.{run_at_taken}
use Rattle.tool_samples.specs.lines.Lines.{write_turn}
use Rattle.tool_samples.proofs.values.values.ValuesPayloads.take.Goals as goal

pub returns-clause-steps : goal.returns-clause-steps
returns-clause-steps g c more =
    let t = tree c.args.self.now.ty in
    let rep = c.args.self.now.rep in
    let take_one : ℕ → Item → Unit {0} → Turn (Unit {0}) = write_turn rep t in
    let end : Unit {0} → Output = λ u. finished in
    let rest = run Records (taking Json take_one) end tt (c.args.number + 1) more in
    let old = g.K.Sink.taken c.args.sink.now in
    let new = g.K.Sink.taken c.write_value.new.sink in
    let result = c.write_value.result in
    subst (λ (o : Output). Steps Records (Some o) (Some rest) result old new) (sym (run_at_taken Records Json take_one end tt c.args.number (item_of c.args._head c.args.payload.now) more c.requires.taken)) (c.write_value.ensures.steps rest)
