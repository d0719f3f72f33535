-- When reading and writing frames may fail without a fault of the frames (this profile's own).
use Rattle.std.specs.Prelude.{ℕ, ◌≤◌, Result, IsErrOf}
use Rattle.xt_io.specs.Outside.{Rose}
use Rattle.type_lookup.specs.declared.faults.FrameFault.{FrameFault}
use Rattle.type_lookup.specs.declared.faults.FrameFault.TheVariants.{LinkFault, Truncated, TooLong, BadMessage, OutOfMemory}

-- The count never falls, and LinkFault is answered only where it rose.
pub record HasFrameCause {T : Type 0} (before now : ℕ) (result : Result T FrameFault) : Type 0 where
  pub later : before ≤ now
  pub failed : IsErrOf result LinkFault → Rose before now

-- The link failed or memory was wanting.
abbrev pub IsOutside : FrameFault → Type 0
IsOutside LinkFault = Unit {0}
IsOutside OutOfMemory = Unit {0}
IsOutside Truncated = ⊥
IsOutside (TooLong n) = ⊥
IsOutside (BadMessage at) = ⊥
