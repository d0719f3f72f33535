-- What is kept of each type that was declared (this profile's own).
use Rattle.std.specs.Prelude.{◌≡◌}
use Rattle.idl_types.specs.State.{Declared}
use Rattle.xt_idl.specs.declared.known.Kept.{Kept}
use Rattle.xt_idl.specs.Measures.{all_measured}
use Rattle.xt_idl.specs.Numbers.{HoldAll}

abbrev pub IsKept : Declared → Kept → Type 0
IsKept ts kept = (kept.measures ≡ all_measured ts) × HoldAll ts kept.numbers
