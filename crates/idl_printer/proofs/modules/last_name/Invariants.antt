use Rattle.std.proofs.Common.{◌≡◌, ◌≤◌, [], drop, slice_range}
use Rattle.idl_printer.specs.Lines.{last_from}
use Rattle.idl_printer.proofs.modules.last_name.Given as goal

abbrev pub invariant-loop-at : goal.invariant-loop-at
invariant-loop-at l = (l.start ≤ l.at) × (last_from (slice_range l.full l.start l.at) (drop l.at l.full) ≡ last_from [] l.full)
