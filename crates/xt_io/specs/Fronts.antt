-- What reading the front of the octets answers, and what it leaves (this profile's own).
use Rattle.std.specs.Prelude.{◌≡◌, ℕ, ◌<◌, List, [], length, Option, Some, None, Result, Ok, Err}
use Rattle.xt_outside.specs.declared.records.Head.{Head}
use Rattle.xt_outside.specs.declared.records.RecordFault.{RecordFault}
use Rattle.xt_outside.specs.declared.records.RecordFault.TheVariants.{ReadFault, Truncated, UnknownKind, TooLong, TooMany, OutOfMemory}
use Rattle.xt_outside.specs.Bundles.{Front, ended, headed, broken}

-- The source failed or memory was wanting: nothing is said of the octets.
abbrev pub IsOutside : RecordFault → Type 0
IsOutside ReadFault = Unit {0}
IsOutside OutOfMemory = Unit {0}
IsOutside (Truncated at kind) = ⊥
IsOutside (UnknownKind at octet) = ⊥
IsOutside (TooLong at kind n) = ⊥
IsOutside (TooMany at) = ⊥

-- A fault of the octets is the one that stands at their front.
abbrev pub IsBroken : Front → RecordFault → Type 0
IsBroken front ReadFault = Unit {0}
IsBroken front OutOfMemory = Unit {0}
IsBroken front (Truncated at kind) = front ≡ broken (Truncated at kind)
IsBroken front (UnknownKind at octet) = front ≡ broken (UnknownKind at octet)
IsBroken front (TooLong at kind n) = front ≡ broken (TooLong at kind n)
IsBroken front (TooMany at) = front ≡ broken (TooMany at)

abbrev pub IsHeaded : Front → Head → Option (List ℕ) → Type 0
IsHeaded front head None = ⊥
IsHeaded front head (Some rest) = front ≡ headed head rest

-- a head is at the front, or the octets have ended, or what stands there is no record
abbrev pub GivesFront : Front → Result (Option Head) RecordFault → Option (List ℕ) → Type 0
GivesFront front (Ok None) after = (front ≡ ended) × (after ≡ Some [])
GivesFront front (Ok (Some head)) after = IsHeaded front head after
GivesFront front (Err fault) after = IsBroken front fault

-- The same of a source's octets, where they are told.
abbrev pub ReadsFront : (List ℕ → Front) → Option (List ℕ) → Result (Option Head) RecordFault → Option (List ℕ) → Type 0
ReadsFront front None result after = Unit {0}
ReadsFront front (Some octets) result after = GivesFront (front octets) result after

-- fewer octets than that are left, where they are told
abbrev pub IsShort : Option (List ℕ) → ℕ → Type 0
IsShort None n = Unit {0}
IsShort (Some octets) n = length octets < n

-- The source failed or memory was wanting, or the input ends inside the payload of this head, of which so many octets are left.
abbrev pub IsCut : Head → ℕ → Option (List ℕ) → RecordFault → Type 0
IsCut head n octets ReadFault = Unit {0}
IsCut head n octets OutOfMemory = Unit {0}
IsCut head n octets (Truncated at kind) = (at ≡ head.at) × (kind ≡ head.kind) × IsShort octets n
IsCut head n octets (UnknownKind at octet) = ⊥
IsCut head n octets (TooLong at kind m) = ⊥
IsCut head n octets (TooMany at) = ⊥
