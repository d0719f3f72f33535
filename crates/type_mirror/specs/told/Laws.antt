-- What a push tells where its peer answers by one session, and what two pushes tell, one each way (own).
use Rattle.std.specs.Prelude.{◌≡◌, ℕ, List, ◌++◌, map}
use Rattle.std.specs.List.{All}
use Rattle.type_lookup.specs.declared.messages.messages.Fetched.{Fetched}
use Rattle.type_lookup.specs.declared.messages.messages.Message.{Message}
use Rattle.type_registry.specs.Passed.{PassView, known}
use Rattle.type_object.specs.visits.Visits.{Known}
use Rattle.lookup_service.specs.States.{Replied}
use Rattle.type_mirror.specs.declared.told.told.Told.{Told}
use Rattle.type_mirror.specs.told.Rounds.{pushed, requests_of, done}
use Rattle.type_mirror.specs.told.Pushes.{MayPush}
use Rattle.type_mirror.specs.told.ByReplies.{outcomes_in, objects_in, told_by, replies_of}
use Rattle.type_mirror.specs.told.Tells.{IsTold, IsGood, HasAll, fetched_id, told_id}

-- Where the replies to a push of these objects are those of one session, what is told holds of the session's last state.
abbrev pub HoldsLast : (List ℕ → List ℕ) → List Fetched → List Message → List Told → Type 0
HoldsLast name objects messages told =
    (entry last : PassView) → MayPush name objects → (pushed name objects messages).end ≡ done told → Replied name entry (requests_of name objects messages) messages last → IsTold (known last) objects told

-- Where each side knows what it pushed, and each push told neither a clash nor a want of room, both sides know all that was pushed.
abbrev pub EvensOut : Known → Known → List Fetched → List Fetched → List Told → List Told → Type 0
EvensOut known_a known_b from_a from_b told_b told_a =
    HasAll known_a from_a → HasAll known_b from_b → IsTold known_b from_a told_b → All IsGood told_b → IsTold known_a from_b told_a → All IsGood told_a → HasAll known_a (from_a ++ from_b) × HasAll known_b (from_a ++ from_b)

-- ---- over all pushes

-- One entry an object is told, in order.
abbrev pub TellsInOrder : Type 0
TellsInOrder = (name : List ℕ → List ℕ) (objects : List Fetched) (messages : List Message) (told : List Told) → (pushed name objects messages).end ≡ done told → map told_id told ≡ map fetched_id objects

-- What is told is what the replies say: of each object the outcome that a reply to putTypes has for it, and of one that clashed the octets that the
-- reply to getTypes has, under the object's own identifier.
abbrev pub TellsReplies : Type 0
TellsReplies = (name : List ℕ → List ℕ) (objects : List Fetched) (messages : List Message) (told : List Told) → (pushed name objects messages).end ≡ done told → let replies = replies_of name objects messages in told ≡ told_by objects (outcomes_in replies) (objects_in replies)

-- Where the replies are those of one session, what is told holds of its last state.
abbrev pub TellsLast : Type 0
TellsLast = (name : List ℕ → List ℕ) (objects : List Fetched) (messages : List Message) (told : List Told) → HoldsLast name objects messages told

-- Where neither a clash nor a want of room is told, the peer knows every object.
abbrev pub GivesAll : Type 0
GivesAll = (known_there : Known) (objects : List Fetched) (told : List Told) → IsTold known_there objects told → All IsGood told → HasAll known_there objects

-- Two such pushes, one in each direction, leave both sides with the union of what was pushed.
abbrev pub MakesEven : Type 0
MakesEven = (known_a known_b : Known) (from_a from_b : List Fetched) (told_b told_a : List Told) → EvensOut known_a known_b from_a from_b told_b told_a
