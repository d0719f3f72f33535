-- One round of a fetch over a link, and the rounds so far (own).
use Rattle.std.specs.Prelude.{◌≡◌, ℕ, List, [], ◌++◌, length, Option, Some, None, Result, Ok, Err}
use Rattle.std.specs.Io.KnownBytes.{IsAtEnd}
use Rattle.type_trees.specs.declared.types.HashId.{HashId}
use Rattle.type_object.specs.Pools.{Texts}
use Rattle.type_lookup.specs.declared.messages.messages.Fetched.{Fetched}
use Rattle.type_lookup.specs.declared.messages.messages.Message.{Message}
use Rattle.type_lookup.specs.declared.messages.messages.Message.TheVariants.{GetTypes}
use Rattle.type_lookup.specs.messages.Spelling.{frame_of}
use Rattle.type_lookup.specs.Frames.{framed, front}
use Rattle.type_lookup.specs.Sequences.{frames_of, AreFrames}
use Rattle.lookup_fetch.specs.declared.plan.Next.TheVariants.{Ask}
use Rattle.lookup_fetch.specs.declared.faults.FetchFault.{FetchFault}
use Rattle.lookup_fetch.specs.declared.faults.FetchFault.TheVariants.{LinkFault, BadReply, WrongHash, NotServed, TooMany, OutOfMemory}
use Rattle.lookup_fetch.specs.Rounds.{plan, rounds, asks, found_in, reply_fault, texts_in, brought}
use Rattle.lookup_fetch.specs.Fetches.{IsPrefix, IsNoFrame, Fetches, Passed}

-- A request was sent, and a message was read; or the request was sent, and what was read is no frame; or the link failed or memory was wanting,
-- and some of the first octets of the request were sent.
abbrev pub Exchanges : Message → List ℕ → List ℕ → Option (List ℕ) → Result Message FetchFault → Type 0
Exchanges request octets sent left (Ok reply) = (sent ≡ frame_of request) × (front octets ≡ framed reply [])
Exchanges request octets sent left (Err LinkFault) = IsPrefix sent (frame_of request)
Exchanges request octets sent left (Err BadReply) = (sent ≡ frame_of request) × IsNoFrame octets (IsAtEnd left)
Exchanges request octets sent left (Err (WrongHash id other)) = ⊥
Exchanges request octets sent left (Err (NotServed id)) = ⊥
Exchanges request octets sent left (Err TooMany) = ⊥
Exchanges request octets sent left (Err OutOfMemory) = IsPrefix sent (frame_of request)

-- the same over a link
pub record ExchangesOver (request : Message) (got_before got_now left_before left_now taken_before taken_now : Option (List ℕ)) (result : Result Message FetchFault) : Type 0 where
  pub octets : List ℕ
  pub sent : List ℕ
  pub passed : Passed got_before got_now left_before left_now taken_before taken_now octets sent
  pub exchanges : Exchanges request octets sent left_now result

-- A round that goes on: a good reply came to its request, and its texts are held now.
pub record GoesOn (ids : List HashId) (tag : ℕ) (before now : Texts) (octets sent : List ℕ) : Type 0 where
  pub asked : List HashId
  pub reply : Message
  pub planned : plan (found_in before) ids ≡ Ask asked
  pub good : reply_fault tag asked reply ≡ None
  pub held : now ≡ before ++ texts_in reply
  pub read : front octets ≡ framed reply []
  pub whole : sent ≡ frame_of (GetTypes tag asked)

-- Asking for identifiers goes on, or it ends the fetch.
abbrev pub IsAsked : List HashId → ℕ → Texts → Texts → List ℕ → List ℕ → Option (List ℕ) → Result (Unit {0}) FetchFault → Type 0
IsAsked ids tag before now octets sent left (Ok u) = GoesOn ids tag before now octets sent
IsAsked ids tag before now octets sent left (Err fault) = Fetches ids tag before octets sent left (Err fault)

-- the same over a link
pub record AsksOver (ids : List HashId) (tag : ℕ) (before now : Texts) (got_before got_now left_before left_now taken_before taken_now : Option (List ℕ)) (result : Result (Unit {0}) FetchFault) : Type 0 where
  pub octets : List ℕ
  pub sent : List ℕ
  pub passed : Passed got_before got_now left_before left_now taken_before taken_now octets sent
  pub answers : IsAsked ids tag before now octets sent left_now result

-- A round goes on, or it is the last one of the fetch.
abbrev pub IsRound : List HashId → ℕ → Texts → Texts → List ℕ → List ℕ → Option (List ℕ) → Result (Option (List Fetched)) FetchFault → Type 0
IsRound ids tag before now octets sent left (Ok None) = GoesOn ids tag before now octets sent
IsRound ids tag before now octets sent left (Ok (Some objects)) = Fetches ids tag before octets sent left (Ok objects)
IsRound ids tag before now octets sent left (Err fault) = Fetches ids tag before octets sent left (Err fault)

-- the same over a link
pub record RoundOver (ids : List HashId) (tag : ℕ) (before now : Texts) (got_before got_now left_before left_now taken_before taken_now : Option (List ℕ)) (result : Result (Option (List Fetched)) FetchFault) : Type 0 where
  pub octets : List ℕ
  pub sent : List ℕ
  pub passed : Passed got_before got_now left_before left_now taken_before taken_now octets sent
  pub round : IsRound ids tag before now octets sent left_now result

-- The rounds so far, up to a tag: messages were read and requests sent, and whatever messages come later, the rounds of all go on from here.
pub record Going (ids : List HashId) (tag : ℕ) (held : Texts) (octets sent : List ℕ) : Type 0 where
  pub messages : List Message
  pub requests : List Message
  pub read : AreFrames octets messages
  pub whole : sent ≡ frames_of requests
  pub as_many : length messages ≡ length requests
  pub texts : held ≡ brought messages
  pub leads : (later : List Message) → rounds ids 1 [] (messages ++ later) ≡ asks requests (rounds ids tag held later)

-- the same over a link
pub record GoingOver (ids : List HashId) (tag : ℕ) (held : Texts) (got_before got_now left_before left_now taken_before taken_now : Option (List ℕ)) : Type 0 where
  pub octets : List ℕ
  pub sent : List ℕ
  pub passed : Passed got_before got_now left_before left_now taken_before taken_now octets sent
  pub going : Going ids tag held octets sent
