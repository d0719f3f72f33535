use Rattle.std.proofs.Common.{◌≡◌, ◌++◌, drop}
use Rattle.idl_printer.specs.Parts.{more_flags}
use Rattle.idl_printer.proofs.parts.more_flags.Given as goal

abbrev pub invariant-loop-flag : goal.invariant-loop-flag
invariant-loop-flag l = l.out ++ more_flags (drop l.flag-index l.flags) ≡ l.initial.out ++ more_flags l.flags
