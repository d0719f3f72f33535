-- What a reader of bundles has still to give (this profile's own).
use Rattle.std.specs.Prelude.{◌≡◌, ℕ, ◌+◌, ◌*◌, ◌≤◌, Bool, true, false, List, length, take, drop, nat_lt, if◌then◌else◌, Option, Some, None, Result, Ok, Err, IfOk, IfErr, IfSome}
use Rattle.std.specs.Option.{option_map}
use Rattle.xt_outside.specs.declared.records.Head.{Head}
use Rattle.xt_outside.specs.declared.records.Item.{Item}
use Rattle.xt_outside.specs.declared.records.RecordFault.{RecordFault}
use Rattle.xt_outside.specs.declared.records.RecordFault.TheVariants.{ReadFault, Truncated, UnknownKind, TooLong, TooMany, OutOfMemory}
use Rattle.xt_io.specs.declared.bundle.Pending.{Pending}
use Rattle.xt_outside.specs.Bundles.{Bundle, nothing, only_fault, cut, before_bundle, with_payload, bundle_from}
use Rattle.xt_io.specs.Fronts.{IsCut}
use Rattle.xt_outside.specs.Outside.{Passes, HasReadCause}

-- how many octets of a payload are left
abbrev pub rest_of : Option Pending → ℕ
rest_of None = 0
rest_of (Some pending) = pending.rest

-- the records behind the payload that is being read; where the input ends inside it, the fault of its record
unfoldable pub behind_payload : Option Pending → ℕ → ℕ → List ℕ → Bundle
behind_payload None more at octets = bundle_from more at octets
behind_payload (Some pending) more at octets = if nat_lt (length octets) pending.rest then cut pending.head else bundle_from more at (drop pending.rest octets)

-- the records still to come, where the source tells its octets, or the fault that was answered
abbrev pub to_come : Option RecordFault → Option Pending → ℕ → ℕ → Option (List ℕ) → Option Bundle
to_come None pending more at octets = option_map (behind_payload pending more at) octets
to_come (Some fault) pending more at octets = Some (only_fault fault)

-- What contracts see of a reader: the records behind the payload that is being read, the fault that was answered and
-- is answered again, how many records may still follow, the payload that is being read, and of its source what is
-- left, the count of faults, and the name.
pub record Reading : Type 0 where
  pub ahead : Option Bundle
  pub fault : Option RecordFault
  pub may_follow : ℕ
  pub pending : Option Pending
  pub left : Option (List ℕ)
  pub faults : ℕ
  pub name : List ℕ

-- Each record that may still follow begins at a place within 64 bits: five octets and a payload for each.
abbrev pub IsWithin : ℕ → ℕ → Type 0
IsWithin at more = at + more * 8388613 ≤ 1048576 * 8388613

-- a payload may be read: no fault was met, or only that of a read
abbrev pub may_read : Option RecordFault → Bool
may_read None = true
may_read (Some ReadFault) = true
may_read (Some (Truncated at kind)) = false
may_read (Some (UnknownKind at octet)) = false
may_read (Some (TooLong at kind n)) = false
may_read (Some (TooMany at)) = false
may_read (Some OutOfMemory) = false

-- the payload that is to be read after this answer
abbrev pub pending_after : Result (Option Head) RecordFault → Option Pending
pending_after (Ok None) = None
pending_after (Ok (Some head)) = Some (record { head = head; rest = head.length })
pending_after (Err fault) = None

-- how many records this gives
abbrev pub given_by : {T : Type 0} → Option T → ℕ
given_by None = 0
given_by (Some found) = 1

-- What holds of each call for a record, a head or a payload.
pub record Answers {T : Type 0} (old new : Reading) (result : Result T RecordFault) : Type 0 where
  -- a fault is answered again, and nothing changes
  pub again : IfSome old.fault (λ fault. (result ≡ Err fault) × (new ≡ old))
  pub kept : IfErr result (λ fault. new.fault ≡ Some fault)
  pub unmet : IfOk result (λ _. old.fault ≡ None)
  pub good : IfOk result (λ _. new.fault ≡ None)
  -- a read fault has its cause in this call, or was answered before
  pub later : old.faults ≤ new.faults
  pub cause : old.fault ≡ None → HasReadCause old.faults new.faults result
  pub same : new.name ≡ old.name

-- the octets of the payload that are still to come
abbrev pub inside : Reading → Option (List ℕ)
inside reading = option_map (take (rest_of reading.pending)) reading.left

-- The fault is the source's or the memory's, or it is the one that ends the bundle.
abbrev pub EndsBundle : RecordFault → Bundle → Type 0
EndsBundle ReadFault bundle = Unit {0}
EndsBundle OutOfMemory bundle = Unit {0}
EndsBundle (Truncated at kind) bundle = bundle ≡ only_fault (Truncated at kind)
EndsBundle (UnknownKind at octet) bundle = bundle ≡ only_fault (UnknownKind at octet)
EndsBundle (TooLong at kind n) bundle = bundle ≡ only_fault (TooLong at kind n)
EndsBundle (TooMany at) bundle = bundle ≡ only_fault (TooMany at)

abbrev pub Ends : RecordFault → Option Bundle → Type 0
Ends fault None = Unit {0}
Ends fault (Some bundle) = EndsBundle fault bundle

-- the record at the front of the bundle, and then the others
abbrev pub TakesFirst : Bundle → Item → Option Bundle → Type 0
TakesFirst before item None = ⊥
TakesFirst before item (Some after) = before ≡ before_bundle item after

-- One step through a bundle.
abbrev pub Takes : Bundle → Result (Option Item) RecordFault → Option Bundle → Type 0
Takes before (Ok (Some item)) after = TakesFirst before item after
Takes before (Ok None) after = (before ≡ nothing) × (after ≡ Some nothing)
Takes before (Err fault) after = EndsBundle fault before

abbrev pub Steps : Option Bundle → Result (Option Item) RecordFault → Option Bundle → Type 0
Steps None result after = Unit {0}
Steps (Some before) result after = Takes before result after

-- the head of the record at the front, its payload, and then the others
abbrev pub TakesHead : Bundle → Head → Option (List ℕ) → Option Bundle → Type 0
TakesHead before head None after = ⊥
TakesHead before head (Some octets) None = ⊥
TakesHead before head (Some octets) (Some after) = before ≡ with_payload head octets after

-- One step through a bundle that leaves the payload to be read.
abbrev pub Heads : Bundle → Result (Option Head) RecordFault → Option (List ℕ) → Option Bundle → Type 0
Heads before (Ok (Some head)) octets after = TakesHead before head octets after
Heads before (Ok None) octets after = (before ≡ nothing) × (after ≡ Some nothing)
Heads before (Err fault) octets after = EndsBundle fault before

abbrev pub StepsToHead : Option Bundle → Result (Option Head) RecordFault → Option (List ℕ) → Option Bundle → Type 0
StepsToHead None result octets after = Unit {0}
StepsToHead (Some before) result octets after = Heads before result octets after

-- this is what is told
abbrev pub IsTold : Option (List ℕ) → List ℕ → Type 0
IsTold None octets = Unit {0}
IsTold (Some told) octets = octets ≡ told

-- why the rest of a payload was not read
abbrev pub CutsPayload : Option Pending → Option (List ℕ) → RecordFault → Type 0
CutsPayload None left fault = ⊥
CutsPayload (Some pending) left fault = IsCut pending.head pending.rest left fault

-- so many octets of a payload were read
abbrev pub ReadsOn : ℕ → Option Pending → Option Pending → Type 0
ReadsOn n None after = ⊥
ReadsOn n (Some before) None = ⊥
ReadsOn n (Some before) (Some after) = (after.head ≡ before.head) × (after.rest + n ≡ before.rest)

-- a fault that a read met: the one that was met before stays
abbrev pub first_fault : Option RecordFault → RecordFault → Option RecordFault
first_fault None fault = Some fault
first_fault (Some met) fault = Some met

-- what is left of a payload was passed over
abbrev pub PassesPending : Option Pending → Option (List ℕ) → Option (List ℕ) → Type 0
PassesPending None old new = new ≡ old
PassesPending (Some pending) old new = Passes pending.rest old new
