use Rattle.std.proofs.Common.{◌≡◌, ◌++◌, drop, map}
use Rattle.type_trees.specs.View.{tree}
use Rattle.idl_printer.specs.Lines.{printed}
use Rattle.idl_printer.proofs.lines.lines.Given as goal

abbrev pub invariant-loop-named : goal.invariant-loop-named
invariant-loop-named l = l.out ++ printed (map (λ n. (n.name, tree n.ty)) (drop l.named-index l.types)) ≡ l.initial.out ++ printed (map (λ n. (n.name, tree n.ty)) l.types)
