-- What workers leave in their seats (own).
use Rattle.std.specs.Prelude.{◌≡◌, ℕ, ◌+◌, ◌≤◌, ◌++◌, Bool, true, false, List, Option, Some, None, length, is_ok, IsErrOf}
use Rattle.xt_io.specs.Outside.{Rose}
use Rattle.xt_io.specs.Links.{Held}
use Rattle.type_registry.specs.Passed.{PassView, Grows}
use Rattle.lookup_service.specs.chains.Chains.{Chain}
use Rattle.lookup_service.specs.declared.workers.faults.ServeFault.TheVariants.{DoorFault}
use Rattle.lookup_service.specs.workers.Outcomes.{Answer}

-- as many entries as there are turns, where all went well
abbrev pub IsCounted : Bool → ℕ → List Held → Type 0
IsCounted true turns entries = length entries ≡ turns
IsCounted false turns entries = length entries ≤ turns

-- The entries that a door has got are sessions one after another, from one state of a pass to another.
pub record NewEntries (name : List ℕ → List ℕ) (good : Bool) (turns : ℕ) (first last : PassView) (before : Option (List Held)) (all : List Held) : Type 0 where
  pub old : List Held
  pub entries : List Held
  pub was : before ≡ Some old
  pub now : all ≡ old ++ entries
  pub chain : Chain name good first entries last
  pub count : IsCounted good turns entries

-- the same where the door tells what it holds; else nothing
abbrev pub IsServed : (List ℕ → List ℕ) → Bool → ℕ → PassView → PassView → Option (List Held) → Option (List Held) → Type 0
IsServed name good turns first last before None = Unit {0}
IsServed name good turns first last before (Some all) = NewEntries name good turns first last before all

-- The door has got one entry for each turn, where it tells what it holds.
abbrev pub HoldsTurns : ℕ → Option (List Held) → Option (List Held) → Type 0
HoldsTurns turns before None = Unit {0}
HoldsTurns turns before (Some all) = (old : List Held) × (before ≡ Some old) × (length all ≡ length old + turns)

-- The count of faults never falls, and DoorFault is answered only where it rose.
pub record HasServeCause (before now : ℕ) (answer : Answer) : Type 0 where
  pub later : before ≤ now
  pub failed : IsErrOf answer DoorFault → Rose before now

-- A seat before and after so many turns, where its worker answers so: the sessions that its door holds, a pass that knows all that it knew, no link
-- out, and a count of faults that rose where the door is said to have failed.
pub record SeatServed {D P : Type 0} (name : List ℕ → List ℕ) (held : D → Option (List Held)) (faults : D → ℕ) (out : D → Bool) (door : P → D) (pass : P → PassView) (turns : ℕ) (old new : P) (answer : Answer) : Type 0 where
  pub served : IsServed name (is_ok answer) turns (pass old) (pass new) (held (door old)) (held (door new))
  pub grows : Grows (pass old) (pass new)
  pub none_out : out (door new) ≡ false
  pub cause : HasServeCause (faults (door old)) (faults (door new)) answer
