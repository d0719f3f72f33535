-- What is read of a payload, and what its reader still gives (this profile's own).
use Rattle.std.specs.Prelude.{◌≡◌, ◌≢◌, ℕ, ◌+◌, ◌-◌, ◌<◌, ◌≤◌, ◌⊎◌, ◌==◌, List, length, drop, take, if◌then◌else◌, Option, Some, None, IfSome, Result, Ok, Err}
use Rattle.xt_outside.specs.Outside.{KeepsTold, Rose}
use Rattle.xt_outside.specs.declared.records.RecordFault.{RecordFault}
use Rattle.xt_outside.specs.declared.records.RecordFault.TheVariants.{ReadFault, Truncated}
use Rattle.xt_outside.specs.declared.octets.Failed.{Failed}
use Rattle.xt_wire.specs.declared.cursor.cursor.CutFault.{CutFault}
use Rattle.xt_wire.specs.declared.cursor.cursor.CutFault.TheVariants.{Fault}
use Rattle.xt_io.specs.declared.bundle.Pending.{Pending}
use Rattle.xt_io.specs.Readers.{Reading, inside}

-- A payload of `whole` octets: the reader as it was before the first of them was read, and as it is now; how many octets
-- were read; and how often a read met the end of the input before the payload's end.
pub record Streaming : Type 0 where
  pub began : Reading
  pub reader : Reading
  pub read : ℕ
  pub whole : ℕ
  pub cuts : ℕ

-- the octets, where they are told and there are n of them
abbrev pub all_of : ℕ → Option (List ℕ) → Option (List ℕ)
all_of n None = None
all_of n (Some octets) = if length octets == n then Some octets else None

-- the octets of the payload, where the source tells its octets and these reach the payload's end
abbrev pub payload_of : Streaming → Option (List ℕ)
payload_of s = all_of s.whole (inside s.began)

-- how often the source failed, and how often the input ended before the payload's end
abbrev pub faults_of : Streaming → ℕ
faults_of s = s.reader.faults + s.cuts

-- the payload of a head of this length, of which none was read
abbrev pub IsWhole : ℕ → Option Pending → Type 0
IsWhole n None = ⊥
IsWhole n (Some pending) = (pending.head.length ≡ n) × (pending.rest ≡ n)

-- The reader's last head had this length, and none of its payload was read.
pub record IsUnread (n : ℕ) (reader : Reading) : Type 0 where
  pub good : reader.fault ≡ None
  pub pending : IsWhole n reader.pending

-- n octets of the same payload are left
abbrev pub IsRest : ℕ → Option Pending → Option Pending → Type 0
IsRest n None now = ⊥
IsRest n (Some began) None = ⊥
IsRest n (Some began) (Some now) = (now.head ≡ began.head) × (now.rest ≡ n)

-- the input ended inside this payload
abbrev pub IsCutOf : Option Pending → RecordFault → Type 0
IsCutOf None fault = ⊥
IsCutOf (Some pending) fault = fault ≡ Truncated pending.head.at pending.head.kind

-- The fault that the reader answers next: none where no read failed and none met the end of the input.
abbrev pub IsMet : Option Pending → ℕ → Option RecordFault → Type 0
IsMet pending cuts None = cuts ≡ 0
IsMet pending cuts (Some fault) = (fault ≡ ReadFault) ⊎ IsCutOf pending fault

-- the input ended before the payload's end, where it is told
abbrev pub IsShortOf : ℕ → Option (List ℕ) → Type 0
IsShortOf n told = IfSome told (λ octets. length octets < n)

-- What holds of a payload and its reader.
pub record IsRead (s : Streaming) : Type 0 where
  pub within : s.read ≤ s.whole
  pub name : s.reader.name ≡ s.began.name
  pub follow : s.reader.may_follow ≡ s.began.may_follow
  pub octets : IfSome (payload_of s) (λ octets. inside s.reader ≡ Some (drop s.read octets))
  -- what was read is there, where it is told: a payload that is cut is not read to its end
  pub enough : IfSome (inside s.began) (λ octets. (inside s.reader ≡ Some (drop s.read octets)) × (s.read ≤ length octets))
  pub behind : s.reader.fault ≢ Some ReadFault → KeepsTold s.began.ahead s.reader.ahead
  pub pending : s.cuts ≡ 0 → IsRest (s.whole - s.read) s.began.pending s.reader.pending
  pub fault : IsMet s.began.pending s.cuts s.reader.fault
  -- but for a failed read, a fault is met only where the payload is cut
  pub short : IfSome s.reader.fault (λ fault. (fault ≡ ReadFault) ⊎ IsShortOf s.whole (inside s.began))
  pub later : s.began.faults ≤ s.reader.faults
  pub cause : s.reader.fault ≡ Some ReadFault → Rose s.began.faults s.reader.faults
  -- a payload that is told whole is not cut
  pub sure : IfSome (payload_of s) (λ octets. s.cuts ≡ 0)

-- The next octets of the payload, where these are told.
abbrev pub AreNext : Streaming → List ℕ → Type 0
AreNext s octets = IfSome (payload_of s) (λ all. octets ≡ take (length octets) (drop s.read all))

-- the same payload
pub record IsAlong (a b : Streaming) : Type 0 where
  pub began : b.began ≡ a.began
  pub whole : b.whole ≡ a.whole
  pub faults : faults_of a ≤ faults_of b

-- what a cursor's call answers where reading failed
abbrev pub stopped_result : Result (Unit {0}) Failed → Result (Unit {0}) CutFault
stopped_result (Ok u) = Ok u
stopped_result (Err failed) = Err Fault
