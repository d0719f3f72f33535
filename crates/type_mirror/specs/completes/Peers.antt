-- A fetch whose peer replies as a service does, out of objects that it has, and how it ends. What is asked for is DDS-XTypes 1.3, 7.6.3.3; the rounds, the
-- replies and their limits are this profile's own.
use Rattle.std.specs.Prelude.{◌≡◌, ◌<◌, ℕ, List, [], ◌∷◌, ◌++◌, true, Option, Some, Result, Ok, Err, length}
use Rattle.std.specs.Io.KnownBytes.{IsAtEnd}
use Rattle.xt_io.specs.Outside.{Rose}
use Rattle.type_trees.specs.declared.types.HashId.{HashId}
use Rattle.type_object.specs.Names.{hash_of}
use Rattle.type_object.specs.References.{is_among}
use Rattle.type_object.specs.visits.Visits.{Known}
use Rattle.type_lookup.specs.declared.messages.messages.Fetched.{Fetched}
use Rattle.type_lookup.specs.declared.messages.messages.Message.{Message}
use Rattle.type_lookup.specs.declared.messages.messages.Message.TheVariants.{GetTypes, GetTypeDependencies, PutTypes, Types, Dependencies, Put}
use Rattle.type_registry.specs.Held.{IsNamed, held}
use Rattle.type_registry.specs.Passed.{PassView, known}
use Rattle.lookup_fetch.specs.declared.faults.FetchFault.{FetchFault}
use Rattle.lookup_fetch.specs.declared.faults.FetchFault.TheVariants.{LinkFault, BadReply, WrongHash, NotServed, TooMany, OutOfMemory}
use Rattle.lookup_fetch.specs.Rounds.{End, done, stopped, waits}
use Rattle.lookup_fetch.specs.Fetches.{FetchesOver, HasFetchCause}
use Rattle.lookup_service.specs.declared.ended.Ended.{Ended}
use Rattle.lookup_service.specs.declared.ended.Ended.TheVariants as endings
use Rattle.lookup_service.specs.Sessions.{Session, SessionOver}
use Rattle.lookup_service.specs.replies.Replies.{IsReply}

-- Each text is an object's, under the identifier that is its own.
abbrev pub AreNamed : Known → Type 0
AreNamed there = (id : HashId) (octets : List ℕ) → there id ≡ Some octets → IsNamed hash_of (held id octets)

-- the identifiers that a request asks for
abbrev pub ids_asked : Message → List HashId
ids_asked (GetTypes tag ids) = ids
ids_asked (GetTypeDependencies tag ids point) = ids
ids_asked (PutTypes tag objects) = []
ids_asked (Types tag objects) = []
ids_asked (Dependencies tag needed point) = []
ids_asked (Put tag outcomes) = []

-- The reply of a service to a request, by a state in which it knows what is there of the objects that are asked for.
pub record IsReplyOf (there : Known) (request reply : Message) : Type 0 where
  pub before : Known
  pub now : PassView
  pub knows : (id : HashId) (octets : List ℕ) → is_among id (ids_asked request) ≡ true → there id ≡ Some octets → known now id ≡ Some octets
  pub replies : IsReply hash_of before now request reply

-- One for one, the messages are such replies to these requests, of which further ones may have none yet.
abbrev pub AreRepliesOf : Known → List Message → List Message → Type 0
AreRepliesOf there requests [] = Unit {0}
AreRepliesOf there [] (reply ∷ replies) = ⊥
AreRepliesOf there (request ∷ requests) (reply ∷ replies) = IsReplyOf there request reply × AreRepliesOf there requests replies

-- The rounds of so many replies are done with these objects; or they wait for a reply, and there were fewer replies than objects.
abbrev pub EndsWell : List Fetched → ℕ → End → Type 0
EndsWell objects count (done others) = others ≡ objects
EndsWell objects count (stopped fault) = ⊥
EndsWell objects count waits = count < length objects

-- A fetch answers these objects, or the link failed or memory was wanting.
abbrev pub AnswersWell : List Fetched → Result (List Fetched) FetchFault → Type 0
AnswersWell objects (Ok others) = others ≡ objects
AnswersWell objects (Err LinkFault) = Unit {0}
AnswersWell objects (Err BadReply) = ⊥
AnswersWell objects (Err (WrongHash id other)) = ⊥
AnswersWell objects (Err (NotServed id)) = ⊥
AnswersWell objects (Err TooMany) = ⊥
AnswersWell objects (Err OutOfMemory) = Unit {0}

-- A fetch comes to these objects, or memory was wanting.
abbrev pub ComesTo : List Fetched → Result (List Fetched) FetchFault → Type 0
ComesTo objects (Ok others) = others ≡ objects
ComesTo objects (Err LinkFault) = ⊥
ComesTo objects (Err BadReply) = ⊥
ComesTo objects (Err (WrongHash id other)) = ⊥
ComesTo objects (Err (NotServed id)) = ⊥
ComesTo objects (Err TooMany) = ⊥
ComesTo objects (Err OutOfMemory) = Unit {0}

-- The session was not broken off, by its link or for want of memory.
abbrev pub IsUnbroken : Ended → Type 0
IsUnbroken endings.Closed = Unit {0}
IsUnbroken endings.LinkFault = ⊥
IsUnbroken (endings.BadFrame at) = Unit {0}
IsUnbroken endings.Limit = Unit {0}
IsUnbroken endings.OutOfMemory = ⊥

-- A session over a pass, from this state of it on, read these octets and sent those, and was not broken off.
pub record IsSession (entry : PassView) (octets sent : List ℕ) : Type 0 where
  pub exit : PassView
  pub left : Option (List ℕ)
  pub ended : Ended
  pub session : Session hash_of entry exit octets sent left ended
  pub unbroken : IsUnbroken ended

-- A fetch of identifiers over a new link, and the session over a new link at its other end, as their contracts tell them. The session read what the fetch
-- sent, and was not broken off. The fetch read what the session sent, or the first octets of it, and its link did not fail, nor end before all was read.
pub record Conversation (entry : PassView) (ids : List HashId) (result : Result (List Fetched) FetchFault) : Type 0 where
  pub asked : List ℕ
  pub read : List ℕ
  pub rest : List ℕ
  -- the fetch
  pub left_before : Option (List ℕ)
  pub left_now : Option (List ℕ)
  pub fetch : FetchesOver ids (Some []) (Some read) left_before left_now (Some []) (Some asked) result
  pub all_read : IsAtEnd left_now → rest ≡ []
  pub faults_before : ℕ
  pub faults_now : ℕ
  pub cause : HasFetchCause faults_before faults_now result
  pub steady : Rose faults_before faults_now → ⊥
  -- the session
  pub exit : PassView
  pub peer_before : Option (List ℕ)
  pub peer_now : Option (List ℕ)
  pub ended : Ended
  pub session : SessionOver hash_of entry exit (Some []) (Some asked) peer_before peer_now (Some []) (Some (read ++ rest)) ended
  pub unbroken : IsUnbroken ended
