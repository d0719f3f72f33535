use Rattle.std.proofs.Common.{◌≡◌, drop}
use Rattle.idl_definitions.specs.Notes.{settings, settings_from}
use Rattle.idl_definitions.proofs.settings.settings_of.Given as goal

abbrev pub invariant-loop-placed : goal.invariant-loop-placed
invariant-loop-placed l = settings_from (drop l.placed-index l.notes) l.set ≡ settings l.notes
