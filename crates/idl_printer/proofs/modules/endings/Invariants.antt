use Rattle.std.proofs.Common.{◌≡◌, ◌++◌, false, drop}
use Rattle.idl_printer.specs.Lines.{endings_from}
use Rattle.idl_printer.proofs.modules.endings.Given as goal

abbrev pub invariant-loop-octet : goal.invariant-loop-octet
invariant-loop-octet l = l.out ++ endings_from l.is_begun (drop l.octet-index l.full) ≡ l.initial.out ++ endings_from false l.full
