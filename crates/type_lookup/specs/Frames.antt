-- Frames: a length as a 32-bit number in big-endian order, and a payload of so many octets. They are this profile's own.
use Rattle.std.specs.Prelude.{◌≡◌, ℕ, zero, suc, ◌+◌, ◌-◌, ◌==◌, nat_lt, if◌then◌else◌, List, [], ◌∷◌, length, take, drop, Option, Some, None, Result, Ok, Err}
use Rattle.std.specs.Int.{w32, from_be_bytes}
use Rattle.std.specs.Io.KnownBytes.{append_known, prepend_known, IsAtEnd}
use Rattle.type_lookup.specs.declared.messages.messages.Message.{Message}
use Rattle.type_lookup.specs.declared.faults.FrameFault.{FrameFault}
use Rattle.type_lookup.specs.declared.faults.FrameFault.TheVariants.{LinkFault, Truncated, TooLong, BadMessage, OutOfMemory}
use Rattle.type_lookup.specs.messages.Fields.{Field, got, bad, payload}
use Rattle.type_lookup.specs.messages.Spelling.{frame_of}

-- What stands at the front of the octets: nothing, a frame with the octets behind it, or what is no frame.
pub data Front : Type 0 where
  no_frame : Front
  framed : Message → List ℕ → Front
  broken : FrameFault → Front

-- a payload of so many octets, with the octets behind it
abbrev pub filled : ℕ → Field Message → List ℕ → Front
filled n (got message none) rest = framed message rest
filled n (bad left) rest = broken (BadMessage (n - left))

-- the octets behind a length
abbrev pub sized : ℕ → List ℕ → Front
sized n octets = if n == 0 then broken (BadMessage 0) else if nat_lt 262144 n then broken (TooLong n) else if nat_lt (length octets) n then broken Truncated else filled n (payload (take n octets)) (drop n octets)

abbrev pub lengthy : List ℕ → Front
lengthy octets = if nat_lt (length octets) 4 then broken Truncated else sized (from_be_bytes w32 (take 4 octets)) (drop 4 octets)

unfoldable pub front : List ℕ → Front
front [] = no_frame
front (octet ∷ octets) = lengthy (octet ∷ octets)

-- The messages of whole frames, and what ends them where that is no end between two frames.
pub record Frames : Type 0 where
  pub messages : List Message
  pub end : Option FrameFault

abbrev pub frames_of_front : (List ℕ → Frames) → Front → Frames
frames_of_front behind no_frame = record { messages = []; end = None }
frames_of_front behind (framed message rest) = let after = behind rest in record { messages = message ∷ after.messages; end = after.end }
frames_of_front behind (broken fault) = record { messages = []; end = Some fault }

-- at most so many frames
unfoldable pub frames_within : ℕ → List ℕ → Frames
frames_within zero octets = record { messages = []; end = None }
frames_within (suc n) octets = frames_of_front (frames_within n) (front octets)

-- The frames that the octets are. Each frame has an octet at least, so there are no more than octets.
abbrev pub frames : List ℕ → Frames
frames octets = frames_within (length octets) octets

-- These octets were read from a link.
abbrev pub Took : Option (List ℕ) → Option (List ℕ) → Option (List ℕ) → Option (List ℕ) → List ℕ → Type 0
Took got_before got_now left_before left_now octets = (got_now ≡ append_known got_before octets) × (left_before ≡ prepend_known octets left_now)

-- The octets end where a frame's fault shows, and none was read behind it: a length that is too long ends them, and a payload that is no message
-- does.
abbrev pub EndsThere : FrameFault → List ℕ → Type 0
EndsThere LinkFault octets = Unit {0}
EndsThere Truncated octets = Unit {0}
EndsThere (TooLong n) octets = length octets ≡ 4
EndsThere (BadMessage at) octets = length octets ≡ 4 + from_be_bytes w32 (take 4 octets)
EndsThere OutOfMemory octets = Unit {0}

-- What reading a frame answers where these octets were read and those are left.
abbrev pub Answers : List ℕ → Option (List ℕ) → Result (Option Message) FrameFault → Type 0
Answers octets left (Ok None) = (octets ≡ []) × IsAtEnd left
Answers octets left (Ok (Some message)) = (front octets ≡ framed message []) × (octets ≡ frame_of message)
Answers octets left (Err LinkFault) = Unit {0}
Answers octets left (Err Truncated) = (front octets ≡ broken Truncated) × IsAtEnd left
Answers octets left (Err (TooLong n)) = (front octets ≡ broken (TooLong n)) × EndsThere (TooLong n) octets
Answers octets left (Err (BadMessage at)) = (front octets ≡ broken (BadMessage at)) × EndsThere (BadMessage at) octets
Answers octets left (Err OutOfMemory) = Unit {0}

-- Reading a frame from a link: the octets that were read are a frame, or the first bad one up to where its fault shows, and no others. After a fault of the link or of the memory some octets
-- were read, and nothing is said of what they are.
abbrev pub ReadsFrame : Option (List ℕ) → Option (List ℕ) → Option (List ℕ) → Option (List ℕ) → Result (Option Message) FrameFault → Type 0
ReadsFrame got_before got_now left_before left_now result = (octets : List ℕ) × Took got_before got_now left_before left_now octets × Answers octets left_now result

-- Some octets were read.
abbrev pub TookSome : Option (List ℕ) → Option (List ℕ) → Option (List ℕ) → Option (List ℕ) → Type 0
TookSome got_before got_now left_before left_now = (octets : List ℕ) × Took got_before got_now left_before left_now octets

-- What reading a frame answers, where the link tells its octets: what stands at their front.
abbrev pub FrontIs : Option (List ℕ) → Result (Option Message) FrameFault → Option (List ℕ) → Type 0
FrontIs None result after = Unit {0}
FrontIs (Some all) (Ok None) after = (front all ≡ no_frame) × (after ≡ Some [])
FrontIs (Some all) (Ok (Some message)) None = ⊥
FrontIs (Some all) (Ok (Some message)) (Some rest) = front all ≡ framed message rest
FrontIs (Some all) (Err LinkFault) after = Unit {0}
FrontIs (Some all) (Err Truncated) after = front all ≡ broken Truncated
FrontIs (Some all) (Err (TooLong n)) after = front all ≡ broken (TooLong n)
FrontIs (Some all) (Err (BadMessage at)) after = front all ≡ broken (BadMessage at)
FrontIs (Some all) (Err OutOfMemory) after = Unit {0}
