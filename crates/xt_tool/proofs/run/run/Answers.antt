use Rattle.std.proofs.Common.{sym, subst}
use Rattle.std.specs.Prelude.{IfSome, OnOk}
use Rattle.std.specs.declared.option.Option.{Option}
use Rattle.std.specs.Option.{option_map}
use Rattle.tool_runs.proofs.Left.{where_ok}
use Rattle.tool_words.specs.declared.commands.Command.{Command}
use Rattle.tool_words.specs.View.{command_view}
use Rattle.xt_tool.specs.Leaving.{LeavesInput}
use Rattle.xt_tool.proofs.run.run.Goals as goal

pub returns-in-None-clause-leaves : goal.returns-in-None-clause-leaves
returns-in-None-clause-leaves g c =
    let left = g.S.Source.left c.args.input.now in
    subst (λ (k : Option Command). OnOk c.refuse_words.result (IfSome (option_map command_view k) (λ command. LeavesInput command left left))) (sym c.in-None.is) (where_ok c.refuse_words.result tt)
