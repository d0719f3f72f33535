use Rattle.std.proofs.Common.{ap, ◌∙◌}
use Rattle.std.proofs.lemmas.List.{take_rest}
use Rattle.type_trees.specs.View.{members_tree}
use Rattle.idl_printer.proofs.Behind.{behind_some}
use Rattle.idl_printer.proofs.lines.members_behind.Goals as goal

pub returns-then-count-members : goal.returns-then-count-members
returns-then-count-members c = ap members_tree (take_rest c.args.members.now c.args.count) ∙ behind_some c.args.count c.args.members.now
