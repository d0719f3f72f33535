-- A session over a link: what it read, what it sent, and how it ended (own).
use Rattle.std.specs.Prelude.{◌≡◌, ◌≤◌, ◌<◌, ℕ, List, [], ◌++◌, true, false, Option, length}
use Rattle.std.specs.List.{All}
use Rattle.std.specs.Io.KnownBytes.{append_known, IsAtEnd}
use Rattle.xt_io.specs.Outside.{Rose}
use Rattle.type_lookup.specs.declared.messages.messages.Message.{Message}
use Rattle.type_lookup.specs.declared.faults.FrameFault.{FrameFault}
use Rattle.type_lookup.specs.declared.faults.FrameFault.TheVariants as frame
use Rattle.type_lookup.specs.Frames.{Front, no_frame, framed, broken, front, Took, EndsThere}
use Rattle.type_lookup.specs.Sequences.{frames_of, AreFrames}
use Rattle.type_registry.specs.Passed.{PassView, Grows}
use Rattle.lookup_service.specs.replies.Replies.{is_request}
use Rattle.lookup_service.specs.declared.ended.Ended.{Ended}
use Rattle.lookup_service.specs.declared.ended.Ended.TheVariants.{Closed, LinkFault, BadFrame, Limit, OutOfMemory}
use Rattle.lookup_service.specs.States.{Replied}

-- ---- what is read

abbrev pub IsRequest : Message → Type 0
IsRequest message = is_request message ≡ true

-- The octets are the frames of these requests, and nothing else.
pub record AreRequests (octets : List ℕ) (requests : List Message) : Type 0 where
  pub frames : AreFrames octets requests
  pub each : All IsRequest requests

-- The fault is one of the octets; they are cut only where this holds, that the input ended.
abbrev pub IsBroken : FrameFault → Type 0 → Type 0
IsBroken frame.LinkFault at_end = ⊥
IsBroken frame.Truncated at_end = at_end
IsBroken (frame.TooLong n) at_end = Unit {0}
IsBroken (frame.BadMessage at) at_end = Unit {0}
IsBroken frame.OutOfMemory at_end = ⊥

-- What stands at the front of these octets is no frame of a request, and nothing stands behind it.
abbrev pub IsBadFront : List ℕ → Front → Type 0 → Type 0
IsBadFront octets no_frame at_end = ⊥
IsBadFront octets (framed message rest) at_end = (is_request message ≡ false) × (rest ≡ [])
IsBadFront octets (broken fault) at_end = IsBroken fault at_end × EndsThere fault octets

-- These octets are a frame that is no request's, up to where its fault shows.
abbrev pub IsBadFrame : List ℕ → Type 0 → Type 0
IsBadFrame octets at_end = IsBadFront octets (front octets) at_end

-- ---- what is sent

abbrev pub IsPrefix : List ℕ → List ℕ → Type 0
IsPrefix some all = (rest : List ℕ) × (all ≡ some ++ rest)

-- All of the frames were sent; where the link failed or memory was wanting, some of their first octets.
abbrev pub Sends : Ended → List ℕ → List ℕ → Type 0
Sends Closed sent frames = sent ≡ frames
Sends (BadFrame at) sent frames = sent ≡ frames
Sends Limit sent frames = sent ≡ frames
Sends LinkFault sent frames = IsPrefix sent frames
Sends OutOfMemory sent frames = IsPrefix sent frames

-- ---- how it ends

-- How a session ended behind the frames of so many requests, of so many octets, where these octets were read behind them and those are left.
abbrev pub EndsBy : Ended → ℕ → ℕ → List ℕ → Option (List ℕ) → Type 0
EndsBy Closed count long behind left = (count < 65536) × (behind ≡ []) × IsAtEnd left
EndsBy (BadFrame at) count long behind left = (count < 65536) × (at ≡ long) × IsBadFrame behind (IsAtEnd left)
EndsBy Limit count long behind left = (count ≡ 65536) × (behind ≡ [])
EndsBy LinkFault count long behind left = count ≤ 65536
EndsBy OutOfMemory count long behind left = count ≤ 65536

-- how a session ends by the fault of a frame that begins at an octet
abbrev pub end_of : FrameFault → ℕ → Ended
end_of frame.LinkFault at = LinkFault
end_of frame.Truncated at = BadFrame at
end_of (frame.TooLong n) at = BadFrame at
end_of (frame.BadMessage place) at = BadFrame at
end_of frame.OutOfMemory at = OutOfMemory

-- The count never falls, and LinkFault is answered only where it rose.
pub record HasSessionCause (before now : ℕ) (ended : Ended) : Type 0 where
  pub later : before ≤ now
  pub failed : ended ≡ LinkFault → Rose before now

-- ---- the session

-- A session over a pass, from one state of it to another, that read these octets, where those are left, and sent others: there are requests, whose
-- frames are at the front of what was read, and their replies, by rising states between the two.
pub record Session (name : List ℕ → List ℕ) (entry exit : PassView) (octets sent : List ℕ) (left : Option (List ℕ)) (ended : Ended) : Type 0 where
  pub requests : List Message
  pub replies : List Message
  pub last : PassView
  pub ahead : List ℕ
  pub behind : List ℕ
  pub cut : octets ≡ ahead ++ behind
  pub read : AreRequests ahead requests
  pub replied : Replied name entry requests replies last
  pub later : Grows last exit
  pub ends : EndsBy ended (length requests) (length ahead) behind left
  pub sends : Sends ended sent (frames_of replies)

-- the same over a link, by what it tells before and after
pub record SessionOver (name : List ℕ → List ℕ) (entry exit : PassView) (got_before got_now left_before left_now taken_before taken_now : Option (List ℕ)) (ended : Ended) : Type 0 where
  pub octets : List ℕ
  pub sent : List ℕ
  pub took : Took got_before got_now left_before left_now octets
  pub gave : taken_now ≡ append_known taken_before sent
  pub session : Session name entry exit octets sent left_now ended

-- ---- the gate

-- The gate was asked for each of so many requests, by its number.
abbrev pub AreAsked : (ℕ → Type 0) → ℕ → Type 0
AreAsked asked count = (number : ℕ) → number < count → asked number

-- A session over a link whose gate was asked for each reply of which an octet was sent.
pub record GatedOver (asked : ℕ → Type 0) (name : List ℕ → List ℕ) (entry exit : PassView) (got_before got_now left_before left_now taken_before taken_now : Option (List ℕ)) (ended : Ended) : Type 0 where
  pub over : SessionOver name entry exit got_before got_now left_before left_now taken_before taken_now ended
  pub each : AreAsked asked (length over.session.replies)
