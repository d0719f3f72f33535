-- What links, doors and nets do to what is told of them (this profile's own).
use Rattle.std.specs.Prelude.{◌≡◌, ℕ, ◌<◌, ◌≤◌, Bool, true, false, nat_lt, List, [], ◌∷◌, ◌++◌, length, map, take, Option, Some, None, Result, Ok, Err, IsErrOf}
use Rattle.std.specs.List.{list_any}
use Rattle.std.specs.Io.KnownBytes.{prepend_known, append_known, IsAtEnd}
use Rattle.xt_outside.specs.declared.links.NetFault.{NetFault}
use Rattle.xt_outside.specs.declared.links.NetFault.TheVariants.{Failed}
use Rattle.xt_outside.specs.Outside.{Rose}

-- What a read of a link did to the octets still to come, at its answer: it gave the first ones.
abbrev pub Gives : {E : Type 0} → Option (List ℕ) → Option (List ℕ) → Result ℕ E → List ℕ → Type 0
Gives old new (Ok n) into = (old ≡ prepend_known (take n into) new) × (n ≡ 0 → 0 < length into → IsAtEnd new)
Gives old new (Err e) into = new ≡ old

-- What a call did to the octets got or taken so far: the first ones of these are added where it is Ok.
abbrev pub Adds : {E : Type 0} → Option (List ℕ) → Option (List ℕ) → Result ℕ E → List ℕ → Type 0
Adds old new (Ok n) octets = new ≡ append_known old (take n octets)
Adds old new (Err e) octets = new ≡ old

-- The count never falls, and Failed is answered only where it rose.
pub record HasNetCause {T : Type 0} (before now : ℕ) (result : Result T NetFault) : Type 0 where
  pub later : before ≤ now
  pub failed : IsErrOf result Failed → Rose before now

-- what is told is empty
abbrev pub IsToldEmpty : {T : Type 0} → Option (List T) → Type 0
IsToldEmpty None = Unit {0}
IsToldEmpty (Some told) = told ≡ []

-- A link that has got and taken nothing, and has not failed.
pub record IsNewLink (got taken : Option (List ℕ)) (faults : ℕ) : Type 0 where
  pub got_none : IsToldEmpty got
  pub taken_none : IsToldEmpty taken
  pub good : faults ≡ 0

-- What a door holds of a link that it got back: the octets got from it, those that it took, its count of faults,
-- and whether its input had ended.
pub record Held : Type 0 where
  pub got : List ℕ
  pub taken : List ℕ
  pub faults : ℕ
  pub ended : Bool

-- What a net has heard over a link that it got back.
pub record Heard : Type 0 where
  pub got : List ℕ
  pub taken : List ℕ
  pub ended : Bool

abbrev pub is_nothing : List ℕ → Bool
is_nothing [] = true
is_nothing (octet ∷ octets) = false

-- from what the link tells of the octets got, taken and left
abbrev pub held_of : Option (List ℕ) → Option (List ℕ) → Option (List ℕ) → ℕ → Option Held
held_of (Some got) (Some taken) (Some left) faults = Some (record { got = got; taken = taken; faults = faults; ended = is_nothing left })
held_of (Some got) (Some taken) None faults = None
held_of (Some got) None left faults = None
held_of None taken left faults = None

abbrev pub heard_of : Option (List ℕ) → Option (List ℕ) → Option (List ℕ) → Option Heard
heard_of (Some got) (Some taken) (Some left) = Some (record { got = got; taken = taken; ended = is_nothing left })
heard_of (Some got) (Some taken) None = None
heard_of (Some got) None left = None
heard_of None taken left = None

-- Where the door tells what it holds, the entry was told, and was appended.
abbrev pub AppendsEntry : Option (List Held) → Option Held → Option (List Held) → Type 0
AppendsEntry old entry None = Unit {0}
AppendsEntry old entry (Some all) = (before : List Held) × (last : Held) × (old ≡ Some before) × (entry ≡ Some last) × (all ≡ before ++ last ∷ [])

-- A door with nothing held, no link out and no fault.
pub record IsNewDoor (held : Option (List Held)) (out : Bool) (faults : ℕ) : Type 0 where
  pub held_none : IsToldEmpty held
  pub none_out : out ≡ false
  pub good : faults ≡ 0

-- where it is told, it is this
abbrev pub IsToldAs : {T : Type 0} → Option T → T → Type 0
IsToldAs None value = Unit {0}
IsToldAs (Some told) value = told ≡ value

-- where the net tells what its doors held, each told it
abbrev pub IsHeldBy : Option (List (List Held)) → List (Option (List Held)) → Type 0
IsHeldBy None doors = Unit {0}
IsHeldBy (Some all) doors = doors ≡ map (λ held. Some held) all

-- where the net tells what it heard, it is what the link told
abbrev pub IsHeardFrom : Option Heard → Option Heard → Type 0
IsHeardFrom None link = Unit {0}
IsHeardFrom (Some heard) link = link ≡ Some heard

-- one of the counts is above 0
abbrev pub any_fault : List ℕ → Bool
any_fault counts = list_any (λ n. nat_lt 0 n) counts
