-- One request of a session: what is read of it, and what comes of its reply (own).
use Rattle.std.specs.Prelude.{◌≡◌, ℕ, List, [], Option, None, Some, Result, Ok, Err}
use Rattle.std.specs.Io.KnownBytes.{append_known, IsAtEnd}
use Rattle.type_lookup.specs.declared.messages.messages.Message.{Message}
use Rattle.type_lookup.specs.messages.Spelling.{frame_of}
use Rattle.type_lookup.specs.Frames.{front, framed, Took}
use Rattle.type_registry.specs.Passed.{PassView}
use Rattle.lookup_service.specs.declared.ended.Ended.{Ended}
use Rattle.lookup_service.specs.declared.ended.Ended.TheVariants.{Closed, LinkFault, BadFrame, Limit, OutOfMemory}
use Rattle.lookup_service.specs.States.{IsStep}
use Rattle.lookup_service.specs.Sessions.{IsRequest, IsBadFrame, IsPrefix}

-- ---- what is read

-- These octets are the frame of a request; or they are where a session ends whose next frame begins at an octet.
abbrev pub Asks : List ℕ → Option (List ℕ) → ℕ → Result Message Ended → Type 0
Asks octets left at (Ok request) = (front octets ≡ framed request []) × (octets ≡ frame_of request) × IsRequest request
Asks octets left at (Err Closed) = (octets ≡ []) × IsAtEnd left
Asks octets left at (Err LinkFault) = Unit {0}
Asks octets left at (Err (BadFrame place)) = (place ≡ at) × IsBadFrame octets (IsAtEnd left)
Asks octets left at (Err Limit) = ⊥
Asks octets left at (Err OutOfMemory) = Unit {0}

-- A link, by what it tells before and after, from which these octets were read.
abbrev pub ReadsRequest : Option (List ℕ) → Option (List ℕ) → Option (List ℕ) → Option (List ℕ) → ℕ → Result Message Ended → Type 0
ReadsRequest got_before got_now left_before left_now at result = (octets : List ℕ) × Took got_before got_now left_before left_now octets × Asks octets left_now at result

-- ---- what comes of its reply

-- The link failed or memory was wanting.
abbrev pub IsFromOutside : Ended → Type 0
IsFromOutside Closed = ⊥
IsFromOutside LinkFault = Unit {0}
IsFromOutside (BadFrame at) = ⊥
IsFromOutside Limit = ⊥
IsFromOutside OutOfMemory = Unit {0}

-- A request has its reply, of which these octets were sent after the gate was asked for it by its number.
pub record IsSent (asked : ℕ → Type 0) (name : List ℕ → List ℕ) (state next : PassView) (request : Message) (number : ℕ) (before now : Option (List ℕ)) (reply : Message) (octets : List ℕ) : Type 0 where
  pub step : IsStep name state next request reply
  pub call : asked number
  pub gave : now ≡ append_known before octets

-- The reply was sent whole.
abbrev pub Replies : (ℕ → Type 0) → (List ℕ → List ℕ) → PassView → PassView → Message → ℕ → Option (List ℕ) → Option (List ℕ) → Type 0
Replies asked name state next request number before now = (reply : Message) × IsSent asked name state next request number before now reply (frame_of reply)

-- A session ended so: before the reply was made, or after some of its octets.
abbrev pub EndsIn : (ℕ → Type 0) → (List ℕ → List ℕ) → PassView → PassView → Message → ℕ → Option (List ℕ) → Option (List ℕ) → Ended → Option Message → Type 0
EndsIn asked name state next request number before now ended None = (ended ≡ OutOfMemory) × (now ≡ before)
EndsIn asked name state next request number before now ended (Some reply) = IsFromOutside ended × (some : List ℕ) × IsPrefix some (frame_of reply) × IsSent asked name state next request number before now reply some

-- the same, whichever it was
abbrev pub BreaksOff : (ℕ → Type 0) → (List ℕ → List ℕ) → PassView → PassView → Message → ℕ → Option (List ℕ) → Option (List ℕ) → Ended → Type 0
BreaksOff asked name state next request number before now ended = (reply : Option Message) × EndsIn asked name state next request number before now ended reply
