-- A push over a link: the octets that were read and sent, and what it answers (own).
use Rattle.std.specs.Prelude.{◌≡◌, ◌≤◌, All, ℕ, List, [], ◌++◌, length, Option, Result, Ok, Err, IsErrOf}
use Rattle.std.specs.Io.KnownBytes.{IsAtEnd}
use Rattle.xt_io.specs.Outside.{Rose}
use Rattle.type_object.specs.Names.{named_by}
use Rattle.type_object.specs.Pools.{IsObject}
use Rattle.type_lookup.specs.declared.messages.messages.Fetched.{Fetched}
use Rattle.type_lookup.specs.declared.messages.messages.Message.{Message}
use Rattle.type_lookup.specs.Sequences.{frames_of, AreFrames}
use Rattle.lookup_fetch.specs.Fetches.{IsPrefix, IsNoFrame, Passed}
use Rattle.type_mirror.specs.pairs.Pairs.{IsDistinct}
use Rattle.type_mirror.specs.declared.told.told.Told.{Told}
use Rattle.type_mirror.specs.declared.told.told.PushFault.{PushFault}
use Rattle.type_mirror.specs.declared.told.told.PushFault.TheVariants.{LinkFault, BadReply, OutOfMemory}
use Rattle.type_mirror.specs.told.Rounds.{State, start, End, done, bad, waits, Rounds, rounds}

-- ---- what may be pushed

-- an object's text under its identifier, which is its kind and name
pub record IsOwn (name : List ℕ → List ℕ) (object : Fetched) : Type 0 where
  pub text : IsObject object.octets
  pub named : object.id ≡ named_by name object.octets

pub record MayPush (name : List ℕ → List ℕ) (objects : List Fetched) : Type 0 where
  pub few : length objects ≤ 4096
  pub distinct : IsDistinct objects
  pub own : All (IsOwn name) objects

-- ---- what a push answers

-- a bad reply: the last message is none to the request, or what stands behind the messages is no frame
abbrev pub IsBad : End → List ℕ → Option (List ℕ) → Type 0
IsBad (done told) behind left = ⊥
IsBad bad behind left = behind ≡ []
IsBad waits behind left = IsNoFrame behind (IsAtEnd left)

-- All requests were sent, this is told, and nothing was read behind the messages that end the rounds so.
pub record Ends (all : Rounds) (told : List Told) (sent behind : List ℕ) : Type 0 where
  pub whole : sent ≡ frames_of all.requests
  pub end_is : all.end ≡ done told
  pub none : behind ≡ []

-- What a push answers, by its rounds, by what it sent, and by the octets behind the messages that it read. After a fault of the link or of the
-- memory some of the first octets of the requests were sent.
abbrev pub Answers : Rounds → List ℕ → List ℕ → Option (List ℕ) → Result (List Told) PushFault → Type 0
Answers all sent behind left (Ok told) = Ends all told sent behind
Answers all sent behind left (Err LinkFault) = IsPrefix sent (frames_of all.requests)
Answers all sent behind left (Err BadReply) = (sent ≡ frames_of all.requests) × IsBad all.end behind left
Answers all sent behind left (Err OutOfMemory) = IsPrefix sent (frames_of all.requests)

-- A push from a tag and a state on: the messages that it read, no more than there are requests, and the octets behind them.
pub record Pushes (name : List ℕ → List ℕ) (tag : ℕ) (state : State) (octets sent : List ℕ) (left : Option (List ℕ)) (result : Result (List Told) PushFault) : Type 0 where
  pub messages : List Message
  pub ahead : List ℕ
  pub behind : List ℕ
  pub cut : octets ≡ ahead ++ behind
  pub read : AreFrames ahead messages
  pub none_more : length messages ≤ length (rounds name tag state messages).requests
  pub answers : Answers (rounds name tag state messages) sent behind left result

-- the same over a link
pub record PushesFrom (name : List ℕ → List ℕ) (tag : ℕ) (state : State) (got_before got_now left_before left_now taken_before taken_now : Option (List ℕ)) (result : Result (List Told) PushFault) : Type 0 where
  pub octets : List ℕ
  pub sent : List ℕ
  pub passed : Passed got_before got_now left_before left_now taken_before taken_now octets sent
  pub pushes : Pushes name tag state octets sent left_now result

-- a push of these objects over a link
abbrev pub PushesOver : (List ℕ → List ℕ) → List Fetched → Option (List ℕ) → Option (List ℕ) → Option (List ℕ) → Option (List ℕ) → Option (List ℕ) → Option (List ℕ) → Result (List Told) PushFault → Type 0
PushesOver name objects = PushesFrom name 1 (start objects)

-- The count never falls, and LinkFault is answered only where it rose.
pub record HasPushCause {T : Type 0} (before now : ℕ) (result : Result T PushFault) : Type 0 where
  pub later : before ≤ now
  pub failed : IsErrOf result LinkFault → Rose before now
