use Rattle.std.proofs.Common.{◌≡◌, ◌++◌, drop}
use Rattle.type_trees.specs.View.{members_tree}
use Rattle.idl_printer.specs.Parts.{members_text}
use Rattle.idl_printer.proofs.parts.all_members.Given as goal

abbrev pub invariant-loop-member : goal.invariant-loop-member
invariant-loop-member l = l.out ++ members_text (members_tree (drop l.member-index l.members)) ≡ l.initial.out ++ members_text (members_tree l.members)
