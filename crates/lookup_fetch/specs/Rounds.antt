-- Fetching objects and all that they refer to, in rounds of getTypes (DDS-XTypes 1.3, 7.6.3.3). The rounds, their order and their limits are
-- this profile's own.
use Rattle.std.specs.Prelude.{ℕ, ◌+◌, List, [], ◌∷◌, ◌++◌, Bool, true, false, cond, not, Option, Some, None, Result, Ok, Err, length, map, filter, take, nat_lt, nat_eq}
use Rattle.type_trees.specs.declared.types.HashId.{HashId}
use Rattle.type_trees.specs.Ids.{same_id}
use Rattle.object_formats.specs.declared.faults.Fault.{Fault}
use Rattle.object_formats.specs.Objects.{Object}
use Rattle.object_formats.specs.Tables.{object_of}
use Rattle.type_object.specs.Names.{named}
use Rattle.type_object.specs.Pools.{Texts, found}
use Rattle.type_object.specs.References.{is_among}
use Rattle.type_lookup.specs.declared.messages.messages.Fetched.{Fetched}
use Rattle.type_lookup.specs.declared.messages.messages.Message.{Message}
use Rattle.type_lookup.specs.declared.messages.messages.Message.TheVariants.{GetTypes, GetTypeDependencies, PutTypes, Types, Dependencies, Put}
use Rattle.type_object.specs.visits.Visits.{Known, is_known, referred, visits}
use Rattle.lookup_fetch.specs.declared.plan.Next.{Next}
use Rattle.lookup_fetch.specs.declared.plan.Next.TheVariants.{Many, Whole, Ask}
use Rattle.lookup_fetch.specs.declared.faults.FetchFault.{FetchFault}
use Rattle.lookup_fetch.specs.declared.faults.FetchFault.TheVariants.{BadReply, WrongHash, NotServed, TooMany}

-- ---- an object and all that it refers to

-- the identifiers that are met depth first from these, known or not; 4,097 where there are more than 4,096
unfoldable pub reached : Known → List HashId → List HashId
reached known ids = visits (λ id. true) (referred known) 4097 [] ids

abbrev pub with_object : HashId → Option (List ℕ) → Option (List Fetched) → Option (List Fetched)
with_object id None objects = None
with_object id (Some octets) None = None
with_object id (Some octets) (Some objects) = Some (record { id = id; octets = octets } ∷ objects)

-- the objects of these identifiers, in order; none, where one isn't known
abbrev pub objects_of : Known → List HashId → Option (List Fetched)
objects_of known [] = Some []
objects_of known (id ∷ ids) = with_object id (known id) (objects_of known ids)

-- The objects of the identifiers that are met from these; none, where one isn't known, or where there are more than 4,096.
unfoldable pub closure : Known → List HashId → Option (List Fetched)
closure known ids = cond (nat_lt 4096 (length (reached known ids))) None (objects_of known (reached known ids))

-- ---- replies

-- the texts that are held, by their identifiers
abbrev pub found_in : Texts → Known
found_in held id = found id held

abbrev pub is_object : Result Object Fault → Bool
is_object (Ok object) = true
is_object (Err fault) = false

-- What is wrong with an object of a reply, where these were asked in the round, and those stand before it in the reply.
abbrev pub fault_of : List HashId → List HashId → Fetched → Option FetchFault
fault_of asked before object =
    cond (not (is_among object.id asked)) (Some BadReply)
    (cond (is_among object.id before) (Some BadReply)
    (cond (not (is_object (object_of object.octets))) (Some BadReply)
    (cond (same_id object.id (named object.octets)) None (Some (WrongHash object.id (named object.octets))))))

abbrev pub first_fault : Option FetchFault → Option FetchFault → Option FetchFault
first_fault (Some fault) later = Some fault
first_fault None later = later

-- the first fault of the objects of a reply
abbrev pub fault_in : List HashId → List HashId → List Fetched → Option FetchFault
fault_in asked before [] = None
fault_in asked before (object ∷ objects) = first_fault (fault_of asked before object) (fault_in asked (before ++ object.id ∷ []) objects)

-- the fault of a round that brought nothing
abbrev pub not_served : List HashId → Option FetchFault
not_served [] = None
not_served (id ∷ ids) = Some (NotServed id)

abbrev pub objects_fault : List HashId → List Fetched → Option FetchFault
objects_fault asked [] = not_served asked
objects_fault asked (object ∷ objects) = fault_in asked [] (object ∷ objects)

-- what is wrong with a reply to the request of these identifiers under a tag
abbrev pub reply_fault : ℕ → List HashId → Message → Option FetchFault
reply_fault tag asked (Types other objects) = cond (nat_eq other tag) (objects_fault asked objects) (Some BadReply)
reply_fault tag asked (GetTypes other ids) = Some BadReply
reply_fault tag asked (GetTypeDependencies other ids point) = Some BadReply
reply_fault tag asked (PutTypes other objects) = Some BadReply
reply_fault tag asked (Dependencies other needed point) = Some BadReply
reply_fault tag asked (Put other outcomes) = Some BadReply

abbrev pub text_of : Fetched → HashId × List ℕ
text_of object = (object.id, object.octets)

-- the texts that a message brings
abbrev pub texts_in : Message → Texts
texts_in (Types tag objects) = map text_of objects
texts_in (GetTypes tag ids) = []
texts_in (GetTypeDependencies tag ids point) = []
texts_in (PutTypes tag objects) = []
texts_in (Dependencies tag needed point) = []
texts_in (Put tag outcomes) = []

-- the texts that messages bring, in order
abbrev pub brought : List Message → Texts
brought [] = []
brought (message ∷ messages) = texts_in message ++ brought messages

-- ---- rounds

-- the first 64 of those that are met and not held, in the order of their first visits
abbrev pub lacking : Known → List HashId → List HashId
lacking known met = take 64 (filter (λ id. not (is_known known id)) met)

abbrev pub or_ask : List HashId → Option (List Fetched) → Next
or_ask ids None = Ask ids
or_ask ids (Some objects) = Whole objects

-- What comes next: too many identifiers are met, or all objects are there, or these are asked for.
unfoldable pub plan : Known → List HashId → Next
plan known ids = cond (nat_lt 4096 (length (reached known ids))) Many (or_ask (lacking known (reached known ids)) (closure known ids))

-- How a fetch ends: with the objects, with a refusal, or where it waits for a reply.
pub data End : Type 0 where
  done : List Fetched → End
  stopped : FetchFault → End
  waits : End

-- the requests of a fetch, and how it ends
pub record Rounds : Type 0 where
  pub requests : List Message
  pub end : End

abbrev pub ends : End → Rounds
ends end = record { requests = []; end = end }

-- requests, and then these rounds
abbrev pub asks : List Message → Rounds → Rounds
asks requests after = record { requests = requests ++ after.requests; end = after.end }

abbrev pub unless_fault : Option FetchFault → Rounds → Rounds
unless_fault (Some fault) after = ends (stopped fault)
unless_fault None after = after

-- no reply came
abbrev pub unanswered : ℕ → Next → Rounds
unanswered tag Many = ends (stopped TooMany)
unanswered tag (Whole objects) = ends (done objects)
unanswered tag (Ask ids) = asks (GetTypes tag ids ∷ []) (ends waits)

-- a reply came, and this is what follows a good one
abbrev pub answered : ℕ → Next → Message → Rounds → Rounds
answered tag Many reply after = ends (stopped TooMany)
answered tag (Whole objects) reply after = ends (done objects)
answered tag (Ask ids) reply after = asks (GetTypes tag ids ∷ []) (unless_fault (reply_fault tag ids reply) after)

-- The rounds from a tag on, where these texts are held, and these messages come.
unfoldable pub rounds : List HashId → ℕ → Texts → List Message → Rounds
rounds ids tag held [] = unanswered tag (plan (found_in held) ids)
rounds ids tag held (reply ∷ replies) = answered tag (plan (found_in held) ids) reply (rounds ids (tag + 1) (held ++ texts_in reply) replies)

-- the requests for the objects of these identifiers, where these messages come
abbrev pub asked : List HashId → List Message → List Message
asked ids messages = (rounds ids 1 [] messages).requests
