use Rattle.std.proofs.Common.{◌≡◌, ◌++◌, drop}
use Rattle.type_trees.specs.View.{tree, cases_tree}
use Rattle.idl_printer.specs.Parts.{cases_text}
use Rattle.idl_printer.proofs.parts.all_cases.Given as goal

abbrev pub invariant-loop-case : goal.invariant-loop-case
invariant-loop-case l = l.out ++ cases_text (tree l.disc) (cases_tree (drop l.case-index l.cases)) ≡ l.initial.out ++ cases_text (tree l.disc) (cases_tree l.cases)
