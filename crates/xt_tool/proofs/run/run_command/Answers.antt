use Rattle.std.proofs.Common.{sym, subst}
use Rattle.std.specs.Prelude.{OnOk}
use Rattle.std.specs.Option.{option_map}
use Rattle.tool_runs.specs.output.Runs.{Writes}
use Rattle.tool_runs.proofs.Left.{where_ok}
use Rattle.tool_words.specs.declared.commands.Command.{Command}
use Rattle.tool_words.specs.View.{command_view}
use Rattle.tool_commands.specs.Making.{made}
use Rattle.xt_tool.specs.Leaving.{LeavesInput}
use Rattle.xt_tool.specs.Output.{of_command, unread_command}
use Rattle.xt_tool.specs.Statuses.{EndsUnread}
use Rattle.xt_tool.proofs.Tops.{ends_anyway}
use Rattle.xt_tool.proofs.run.run_command.Goals as goal

pub returns-in-Make-clause-output : goal.returns-in-Make-clause-output
returns-in-Make-clause-output g c =
    let left = g.S.Source.left c.args.input.now in
    let old = g.K.Sink.taken c.args.output.now in
    let new = g.K.Sink.taken c.make.new.output in
    let told = ends_anyway (made c.in-Make.seed c.in-Make.count) left c.make.result old new c.make.ensures.ends in
    subst (λ (k : Command). Writes (option_map (of_command (command_view k)) left) c.make.result old new) (sym c.in-Make.is) told

pub returns-in-Make-clause-leaves : goal.returns-in-Make-clause-leaves
returns-in-Make-clause-leaves g c =
    let left = g.S.Source.left c.args.input.now in
    subst (λ (k : Command). OnOk c.make.result (LeavesInput (command_view k) left left)) (sym c.in-Make.is) (where_ok c.make.result tt)

pub returns-in-Wrap-clause-leaves : goal.returns-in-Wrap-clause-leaves
returns-in-Wrap-clause-leaves g c =
    let old = g.S.Source.left c.args.input.now in
    let new = g.S.Source.left c.wrap.new.input in
    subst (λ (k : Command). OnOk c.wrap.result (LeavesInput (command_view k) old new)) (sym c.in-Wrap.is) (where_ok c.wrap.result tt)

pub returns-in-Record-clause-leaves : goal.returns-in-Record-clause-leaves
returns-in-Record-clause-leaves g c =
    let old = g.S.Source.left c.args.input.now in
    let new = g.S.Source.left c.body_command-in-Record.new.input in
    subst (λ (k : Command). OnOk c.body_command-in-Record.result (LeavesInput (command_view k) old new)) (sym c.in-Record.is) c.body_command-in-Record.ensures.leaves

pub returns-in-Make-clause-unread : goal.returns-in-Make-clause-unread
returns-in-Make-clause-unread g c =
    let old = g.K.Sink.taken c.args.output.now in
    let new = g.K.Sink.taken c.make.new.output in
    subst (λ (k : Command). EndsUnread (unread_command (command_view k)) c.make.result old new) (sym c.in-Make.is) (c.make.ensures.ends, c.make.ensures.halts.no_read)
