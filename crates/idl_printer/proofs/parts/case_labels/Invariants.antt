use Rattle.std.proofs.Common.{◌≡◌, ◌++◌, drop}
use Rattle.type_trees.specs.View.{tree}
use Rattle.idl_printer.specs.Parts.{labels_text}
use Rattle.idl_printer.proofs.parts.case_labels.Given as goal

abbrev pub invariant-loop-n : goal.invariant-loop-n
invariant-loop-n l = l.out ++ labels_text (tree l.disc) (drop l.n-index l.labels) ≡ l.initial.out ++ labels_text (tree l.disc) l.labels
