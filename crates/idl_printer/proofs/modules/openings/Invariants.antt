use Rattle.std.proofs.Common.{◌≡◌, ◌≤◌, ◌++◌, [], drop, slice_range}
use Rattle.idl_printer.specs.Lines.{openings_from}
use Rattle.idl_printer.proofs.modules.openings.Given as goal

abbrev pub invariant-loop-at : goal.invariant-loop-at
invariant-loop-at l = (l.start ≤ l.at) × (l.out ++ openings_from (slice_range l.full l.start l.at) (drop l.at l.full) ≡ l.initial.out ++ openings_from [] l.full)
