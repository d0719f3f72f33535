-- A fetch comes to its objects, where its peer has them all and replies as a service does. What is asked for is DDS-XTypes 1.3, 7.6.3.3; the laws are this
-- profile's own.
use Rattle.std.specs.Prelude.{◌≡◌, ◌≤◌, ℕ, List, [], ◌++◌, Option, Some, Result, length}
use Rattle.std.specs.Io.KnownBytes.{IsAtEnd}
use Rattle.type_trees.specs.declared.types.HashId.{HashId}
use Rattle.type_object.specs.Names.{hash_of}
use Rattle.type_object.specs.visits.Visits.{Known}
use Rattle.type_lookup.specs.declared.messages.messages.Fetched.{Fetched}
use Rattle.type_lookup.specs.declared.messages.messages.Message.{Message}
use Rattle.type_lookup.specs.Sequences.{AreFrames}
use Rattle.type_registry.specs.Passed.{PassView, known, IsPass}
use Rattle.lookup_fetch.specs.declared.faults.FetchFault.{FetchFault}
use Rattle.lookup_fetch.specs.Rounds.{closure, rounds, asked, done}
use Rattle.lookup_fetch.specs.Fetches.{Fetches, FetchesOver}
use Rattle.lookup_service.specs.States.{Replied}
use Rattle.type_mirror.specs.completes.Peers.{AreNamed, AreRepliesOf, EndsWell, AnswersWell, ComesTo, IsSession, Conversation}

-- The peer has the objects of all that is met from these identifiers, which are these and at most 4,096.
pub record HasMet (there : Known) (ids : List HashId) (objects : List Fetched) : Type 0 where
  pub named : AreNamed there
  pub whole : closure there ids ≡ Some objects

-- Each request of a fetch has such a reply.
pub record AreAllReplies (there : Known) (ids : List HashId) (replies : List Message) : Type 0 where
  pub each : AreRepliesOf there (asked ids replies) replies
  pub many : length (asked ids replies) ≡ length replies

-- No round ends in a fault: they are done with these objects, or wait for a reply, which they don't any more with as many replies as objects.
abbrev pub EndsWithObjects : Type 0
EndsWithObjects = (there : Known) (ids : List HashId) (objects : List Fetched) (messages : List Message) → HasMet there ids objects → AreRepliesOf there (asked ids messages) messages → EndsWell objects (length messages) (rounds ids 1 [] messages).end

-- There are replies by which they are done: those of a pass that knows all.
abbrev pub SomeEndThem : Type 0
SomeEndThem =
    (pass : PassView) (ids : List HashId) (objects : List Fetched) → HasMet (known pass) ids objects → (messages : List Message) × (length messages ≤ length objects) × AreRepliesOf (known pass) (asked ids messages) messages × ((rounds ids 1 [] messages).end ≡ done objects)

-- A fetch answers these objects, or the link failed or memory was wanting, where the octets that it read and those behind them are the frames of such
-- replies, one to each of its requests. Where the input has ended there are none behind.
abbrev pub AnswersObjects : Type 0
AnswersObjects =
    (there : Known) (ids : List HashId) (objects : List Fetched) (replies : List Message) (octets rest sent : List ℕ) (left : Option (List ℕ)) (result : Result (List Fetched) FetchFault) → HasMet there ids objects → AreAllReplies there ids replies → AreFrames (octets ++ rest) replies
    → (IsAtEnd left → rest ≡ []) → Fetches ids 1 [] octets sent left result → AnswersWell objects result

-- So it is where these frames are what a link has left when `fetch` is called.
abbrev pub AnswersOver : Type 0
AnswersOver =
    (there : Known) (ids : List HashId) (objects : List Fetched) (replies : List Message) (all : List ℕ) (got_before got_now left_now taken_before taken_now : Option (List ℕ)) (result : Result (List Fetched) FetchFault) → HasMet there ids objects → AreAllReplies there ids replies → AreFrames all replies
    → FetchesOver ids got_before got_now (Some all) left_now taken_before taken_now result → AnswersWell objects result

-- ---- a session of the service

-- The rounds are done with these objects, where the replies are those of one session whose pass knew all when it began.
abbrev pub SessionEndsThem : Type 0
SessionEndsThem =
    (entry last : PassView) (ids : List HashId) (objects : List Fetched) (messages : List Message) → IsPass hash_of entry → closure (known entry) ids ≡ Some objects → Replied hash_of entry (asked ids messages) messages last → (rounds ids 1 [] messages).end ≡ done objects

-- A fetch answers these objects, or the link failed or memory was wanting, where such a session read the octets that the fetch sent, and sent those that
-- the fetch read and others behind. Where the input has ended there are none behind.
abbrev pub AnswersSession : Type 0
AnswersSession =
    (entry : PassView) (ids : List HashId) (objects : List Fetched) (octets rest sent : List ℕ) (left : Option (List ℕ)) (result : Result (List Fetched) FetchFault) → IsPass hash_of entry → closure (known entry) ids ≡ Some objects → IsSession entry sent (octets ++ rest)
    → (IsAtEnd left → rest ≡ []) → Fetches ids 1 [] octets sent left result → AnswersWell objects result

-- So a fetch and such a session that talk to each other come to these objects, unless memory was wanting in the fetch.
abbrev pub ComesToObjects : Type 0
ComesToObjects = (entry : PassView) (ids : List HashId) (objects : List Fetched) (result : Result (List Fetched) FetchFault) → IsPass hash_of entry → closure (known entry) ids ≡ Some objects → Conversation entry ids result → ComesTo objects result
