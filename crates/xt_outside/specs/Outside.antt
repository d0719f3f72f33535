-- What a call of the outside does to the octets that are left and taken, and when it may fail (this profile's own).
use Rattle.std.specs.Prelude.{◌≡◌, ℕ, ◌+◌, ◌-◌, ◌^◌, ◌≤◌, min, Bool, true, false, ◌==◌, List, ◌++◌, length, take, drop, Some, None, Result, OnErr, IfOk, IsErrOf}
use Rattle.std.specs.List.{list_any}
use Rattle.std.specs.Io.KnownBytes.{Appends}
use Rattle.xt_outside.specs.declared.records.RecordFault.{RecordFault}
use Rattle.xt_outside.specs.declared.records.RecordFault.TheVariants.{ReadFault}
use Rattle.std.specs.declared.option.Option.{Option}

-- a count raised by one, which stands still at the end of its type
abbrev pub raised_from : ℕ → ℕ
raised_from count = min (count + 1) (2 ^ 64 - 1)

-- The count of faults rose, or stands at the end of its type.
abbrev pub Rose : ℕ → ℕ → Type 0
Rose before now = raised_from before ≤ now

-- The count rose exactly where this holds.
abbrev pub RisesWhere : Bool → ℕ → ℕ → Type 0
RisesWhere true before now = Rose before now
RisesWhere false before now = now ≡ before

-- the call of this number is to fail
abbrev pub is_listed : List ℕ → ℕ → Bool
is_listed fails call = list_any (λ n. n == call) fails

-- The count never falls, and a call answers a fault only where it rose.
pub record HasCause {T E : Type 0} (before now : ℕ) (result : Result T E) : Type 0 where
  pub later : before ≤ now
  pub failed : OnErr result (Rose before now)

-- Past the octets that were read the slice is as it was.
abbrev pub KeepsRest : {E : Type 0} → Result ℕ E → List ℕ → List ℕ → Type 0
KeepsRest result old new = IfOk result (λ n. drop n new ≡ drop n old)

-- All of the octets were appended.
abbrev pub AppendsAll : Option (List ℕ) → Option (List ℕ) → List ℕ → Type 0
AppendsAll old new octets = Appends old new octets

-- Some of the first octets were appended.
abbrev pub AppendsPrefix : Option (List ℕ) → Option (List ℕ) → List ℕ → Type 0
AppendsPrefix old new octets = (some rest : List ℕ) × (octets ≡ some ++ rest) × Appends old new some

-- The first n octets were read, or all where there are fewer, and those behind them are left.
abbrev pub TakesUpTo : ℕ → Option (List ℕ) → Option (List ℕ) → List ℕ → Type 0
TakesUpTo n None new octets = Unit {0}
TakesUpTo n (Some all) new octets = (octets ≡ take n all) × (new ≡ Some (drop n all))

-- The count never falls, and a read fault is answered only where it rose.
pub record HasReadCause {T : Type 0} (before now : ℕ) (result : Result T RecordFault) : Type 0 where
  pub later : before ≤ now
  pub failed : IsErrOf result ReadFault → Rose before now

-- What was told stays as it was.
abbrev pub KeepsTold : {T : Type 0} → Option T → Option T → Type 0
KeepsTold None new = Unit {0}
KeepsTold (Some old) new = new ≡ Some old

-- So many octets were passed over, all of those asked for.
abbrev pub Passes : ℕ → Option (List ℕ) → Option (List ℕ) → Type 0
Passes n None new = Unit {0}
Passes n (Some all) new = (n ≤ length all) × (new ≡ Some (drop n all))

-- So many of the octets asked for were passed over.
abbrev pub PassesUpTo : ℕ → Option (List ℕ) → Option (List ℕ) → ℕ → Type 0
PassesUpTo most old new n = (octets : List ℕ) × TakesUpTo most old new octets × (length octets ≡ n)
