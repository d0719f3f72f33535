-- A fetch over a link: the octets that were read and sent, and what it answers (own).
use Rattle.std.specs.Prelude.{◌≡◌, ◌≤◌, ℕ, List, [], ◌++◌, length, Option, Some, Result, Ok, Err, IsErrOf}
use Rattle.std.specs.Io.KnownBytes.{append_known, IsAtEnd}
use Rattle.xt_io.specs.Outside.{Rose}
use Rattle.type_trees.specs.declared.types.HashId.{HashId}
use Rattle.type_object.specs.Pools.{Texts}
use Rattle.type_lookup.specs.declared.messages.messages.Fetched.{Fetched}
use Rattle.type_lookup.specs.declared.messages.messages.Message.{Message}
use Rattle.type_lookup.specs.declared.faults.FrameFault.TheVariants as frame
use Rattle.type_lookup.specs.Frames.{Front, no_frame, framed, broken, front, Took, EndsThere}
use Rattle.type_lookup.specs.Sequences.{frames_of, AreFrames}
use Rattle.lookup_fetch.specs.declared.faults.FetchFault.{FetchFault}
use Rattle.lookup_fetch.specs.declared.faults.FetchFault.TheVariants.{LinkFault, BadReply, WrongHash, NotServed, TooMany, OutOfMemory}
use Rattle.lookup_fetch.specs.Rounds.{End, done, stopped, waits, Rounds, rounds, closure, found_in, brought}

abbrev pub IsPrefix : List ℕ → List ℕ → Type 0
IsPrefix some all = (rest : List ℕ) × (all ≡ some ++ rest)

-- At the front of these octets stands no whole frame, and they end where its fault shows. It is nothing, or a cut frame, only where this holds, that
-- the input ended.
abbrev pub IsNoFront : List ℕ → Front → Type 0 → Type 0
IsNoFront octets no_frame at_end = at_end
IsNoFront octets (framed message rest) at_end = ⊥
IsNoFront octets (broken frame.LinkFault) at_end = ⊥
IsNoFront octets (broken frame.Truncated) at_end = at_end
IsNoFront octets (broken (frame.TooLong n)) at_end = EndsThere (frame.TooLong n) octets
IsNoFront octets (broken (frame.BadMessage at)) at_end = EndsThere (frame.BadMessage at) octets
IsNoFront octets (broken frame.OutOfMemory) at_end = ⊥

-- These octets are no whole frame: the end of the input, or a bad frame with nothing behind it.
abbrev pub IsNoFrame : List ℕ → Type 0 → Type 0
IsNoFrame octets at_end = IsNoFront octets (front octets) at_end

-- a bad reply: the last message is none to the request, or what stands behind the messages is no frame
abbrev pub IsBad : End → List ℕ → Option (List ℕ) → Type 0
IsBad (done objects) behind left = ⊥
IsBad (stopped fault) behind left = (fault ≡ BadReply) × (behind ≡ [])
IsBad waits behind left = IsNoFrame behind (IsAtEnd left)

-- All requests were sent, and nothing was read behind the messages that end the rounds so.
pub record Ends (all : Rounds) (end : End) (sent behind : List ℕ) : Type 0 where
  pub whole : sent ≡ frames_of all.requests
  pub end_is : all.end ≡ end
  pub none : behind ≡ []

-- What a fetch answers, by its rounds, by what it sent, and by the octets behind the messages that it read. After a fault of the link or of the
-- memory some of the first octets of the requests were sent.
abbrev pub Answers : Rounds → List ℕ → List ℕ → Option (List ℕ) → Result (List Fetched) FetchFault → Type 0
Answers all sent behind left (Ok objects) = Ends all (done objects) sent behind
Answers all sent behind left (Err LinkFault) = IsPrefix sent (frames_of all.requests)
Answers all sent behind left (Err BadReply) = (sent ≡ frames_of all.requests) × IsBad all.end behind left
Answers all sent behind left (Err (WrongHash id other)) = Ends all (stopped (WrongHash id other)) sent behind
Answers all sent behind left (Err (NotServed id)) = Ends all (stopped (NotServed id)) sent behind
Answers all sent behind left (Err TooMany) = Ends all (stopped TooMany) sent behind
Answers all sent behind left (Err OutOfMemory) = IsPrefix sent (frames_of all.requests)

-- where there are objects, they are those of the identifiers and all that they refer to, as the texts tell them
abbrev pub HasClosure : Texts → List HashId → Result (List Fetched) FetchFault → Type 0
HasClosure texts ids (Ok objects) = closure (found_in texts) ids ≡ Some objects
HasClosure texts ids (Err fault) = Unit {0}

-- A fetch of these identifiers from a tag on, where these texts are held: the messages that it read, no more than there are requests, and the octets
-- behind them.
pub record Fetches (ids : List HashId) (tag : ℕ) (held : Texts) (octets sent : List ℕ) (left : Option (List ℕ)) (result : Result (List Fetched) FetchFault) : Type 0 where
  pub messages : List Message
  pub ahead : List ℕ
  pub behind : List ℕ
  pub cut : octets ≡ ahead ++ behind
  pub read : AreFrames ahead messages
  pub none_more : length messages ≤ length (rounds ids tag held messages).requests
  pub answers : Answers (rounds ids tag held messages) sent behind left result
  pub closed : HasClosure (held ++ brought messages) ids result

-- These octets were read from a link, and those were sent on it.
pub record Passed (got_before got_now left_before left_now taken_before taken_now : Option (List ℕ)) (octets sent : List ℕ) : Type 0 where
  pub took : Took got_before got_now left_before left_now octets
  pub gave : taken_now ≡ append_known taken_before sent

-- a fetch over a link
pub record FetchesOver (ids : List HashId) (got_before got_now left_before left_now taken_before taken_now : Option (List ℕ)) (result : Result (List Fetched) FetchFault) : Type 0 where
  pub octets : List ℕ
  pub sent : List ℕ
  pub passed : Passed got_before got_now left_before left_now taken_before taken_now octets sent
  pub fetches : Fetches ids 1 [] octets sent left_now result

-- The count never falls, and LinkFault is answered only where it rose.
pub record HasFetchCause {T : Type 0} (before now : ℕ) (result : Result T FetchFault) : Type 0 where
  pub later : before ≤ now
  pub failed : IsErrOf result LinkFault → Rose before now
