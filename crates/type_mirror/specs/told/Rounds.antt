-- Pushing objects to a peer (this profile's own, but for getTypes: DDS-XTypes 1.3, 7.6.3.3): putTypes with as many of the next objects as a
-- frame has room for, and after its reply getTypes for each object that clashes there, one identifier at a time.
use Rattle.std.specs.Prelude.{ℕ, zero, suc, ◌+◌, ◌-◌, List, [], ◌∷◌, ◌++◌, Bool, cond, not, ◌&&◌, Option, Some, None, length, map, take, drop, nat_lt, nat_eq}
use Rattle.std.specs.List.{list_any}
use Rattle.std.specs.Str.{bytes_eq}
use Rattle.type_trees.specs.declared.types.HashId.{HashId}
use Rattle.object_formats.specs.Tables.{object_of}
use Rattle.type_trees.specs.Ids.{same_id}
use Rattle.type_object.specs.Names.{named_by}
use Rattle.type_lookup.specs.declared.messages.messages.Fetched.{Fetched}
use Rattle.type_lookup.specs.declared.messages.messages.Message.{Message}
use Rattle.type_lookup.specs.declared.messages.messages.Message.TheVariants.{GetTypes, GetTypeDependencies, PutTypes, Types, Dependencies, Put}
use Rattle.type_lookup.specs.messages.Spelling.{object_octets}
use Rattle.lookup_fetch.specs.Rounds.{is_object}
use Rattle.type_mirror.specs.declared.told.told.Told.{Told}
use Rattle.type_mirror.specs.declared.told.told.What.{What}
use Rattle.type_mirror.specs.declared.told.told.What.TheVariants.{Added, Known, Clash, Full}

-- ---- the objects of a request

-- how many of the first objects there are, at most so many, that take no more than so many octets
abbrev pub fitting : ℕ → ℕ → List Fetched → ℕ
fitting zero room objects = 0
fitting (suc n) room [] = 0
fitting (suc n) room (object ∷ objects) = cond (nat_lt room (length (object_octets object.octets))) 0 (suc (fitting n (room - length (object_octets object.octets)) objects))

-- A request has 1,024 objects at most, and its payload 262,144 octets; the fields before the objects take 13.
unfoldable pub count_of : List Fetched → ℕ
count_of objects = fitting 1024 262131 objects

abbrev pub batch : List Fetched → List Fetched
batch objects = take (count_of objects) objects

abbrev pub octets_of : Fetched → List ℕ
octets_of object = object.octets

-- ---- how far a push has come

-- an object that was put, and its outcome in the reply
pub record Outcome : Type 0 where
  pub object : Fetched
  pub outcome : ℕ

-- What was told so far, in order; the objects of the last reply from the first on that is still to be asked for; and those that weren't sent.
pub record State : Type 0 where
  pub told : List Told
  pub asking : List Outcome
  pub rest : List Fetched

abbrev pub told_as : HashId → What → List Told
told_as id what = record { id = id; what = what } ∷ []

-- 0 added, 1 known, 4 no room
abbrev pub what_of : ℕ → What
what_of outcome = cond (nat_eq outcome 0) Added (cond (nat_eq outcome 1) Known Full)

-- Outcomes are told up to the first clash.
abbrev pub settled : List Told → List Outcome → List Fetched → State
settled told [] rest = record { told = told; asking = []; rest = rest }
settled told (o ∷ os) rest = cond (nat_eq o.outcome 3) (record { told = told; asking = o ∷ os; rest = rest }) (settled (told ++ told_as o.object.id (what_of o.outcome)) os rest)

abbrev pub start : List Fetched → State
start objects = record { told = []; asking = []; rest = objects }

-- ---- requests

abbrev pub put_request : ℕ → List Fetched → Option Message
put_request tag [] = None
put_request tag (object ∷ objects) = Some (PutTypes tag (map octets_of (batch (object ∷ objects))))

abbrev pub request_by : ℕ → List Outcome → List Fetched → Option Message
request_by tag [] rest = put_request tag rest
request_by tag (o ∷ os) rest = Some (GetTypes tag (o.object.id ∷ []))

-- what is asked next; none, where all is told
abbrev pub request : ℕ → State → Option Message
request tag state = request_by tag state.asking state.rest

-- ---- replies

-- the octets are another object than this one, under its identifier, which is their kind and name
abbrev pub is_other : (List ℕ → List ℕ) → Fetched → Fetched → Bool
is_other name object there = is_object (object_of there.octets) && (same_id there.id object.id && (same_id there.id (named_by name there.octets) && not (bytes_eq there.octets object.octets)))

-- one object came
abbrev pub clash_in : (List ℕ → List ℕ) → Fetched → List Fetched → Option (List ℕ)
clash_in name object [] = None
clash_in name object (there ∷ []) = cond (is_other name object there) (Some there.octets) None
clash_in name object (there ∷ (more ∷ others)) = None

-- the other octets under the identifier of an object, by the reply to the request under a tag
abbrev pub clash_of : (List ℕ → List ℕ) → ℕ → Fetched → Message → Option (List ℕ)
clash_of name tag object (Types other objects) = cond (nat_eq other tag) (clash_in name object objects) None
clash_of name tag object (GetTypes other ids) = None
clash_of name tag object (GetTypeDependencies other ids point) = None
clash_of name tag object (PutTypes other objects) = None
clash_of name tag object (Dependencies other needed point) = None
clash_of name tag object (Put other outcomes) = None

-- an outcome for each object that was put, and none says that it is no object
abbrev pub are_outcomes : ℕ → List ℕ → Bool
are_outcomes count outcomes = nat_eq (length outcomes) count && not (list_any (λ outcome. nat_eq outcome 2) outcomes)

abbrev pub outcomes_of : ℕ → ℕ → Message → Option (List ℕ)
outcomes_of tag count (Put other outcomes) = cond (nat_eq other tag && are_outcomes count outcomes) (Some outcomes) None
outcomes_of tag count (Types other objects) = None
outcomes_of tag count (GetTypes other ids) = None
outcomes_of tag count (GetTypeDependencies other ids point) = None
outcomes_of tag count (PutTypes other objects) = None
outcomes_of tag count (Dependencies other needed point) = None

abbrev pub paired : List Fetched → List ℕ → List Outcome
paired [] outcomes = []
paired (object ∷ objects) [] = []
paired (object ∷ objects) (outcome ∷ outcomes) = record { object = object; outcome = outcome } ∷ paired objects outcomes

-- the state behind a reply with the other octets, or behind one with outcomes
abbrev pub after_clash : State → Fetched → List Outcome → Option (List ℕ) → Option State
after_clash state object os None = None
after_clash state object os (Some octets) = Some (settled (state.told ++ told_as object.id (Clash octets)) os state.rest)

abbrev pub after_put : State → Option (List ℕ) → Option State
after_put state None = None
after_put state (Some outcomes) = Some (settled state.told (paired (batch state.rest) outcomes) (drop (count_of state.rest) state.rest))

abbrev pub answered_by : (List ℕ → List ℕ) → ℕ → State → Message → List Outcome → Option State
answered_by name tag state reply (o ∷ os) = after_clash state o.object os (clash_of name tag o.object reply)
answered_by name tag state reply [] = after_put state (outcomes_of tag (length (batch state.rest)) reply)

-- the state behind a reply to the request under a tag; none, where it is no reply to it
abbrev pub answered : (List ℕ → List ℕ) → ℕ → State → Message → Option State
answered name tag state reply = answered_by name tag state reply state.asking

-- ---- one request after another

-- How a push ends: with all that it tells, by what is no reply, or where it waits for one.
pub data End : Type 0 where
  done : List Told → End
  bad : End
  waits : End

pub record Rounds : Type 0 where
  pub requests : List Message
  pub end : End

abbrev pub ends : End → Rounds
ends end = record { requests = []; end = end }

-- requests, and then these rounds
abbrev pub asks : List Message → Rounds → Rounds
asks requests more = record { requests = requests ++ more.requests; end = more.end }

abbrev pub unless_bad : Option State → (State → Rounds) → Rounds
unless_bad None more = ends bad
unless_bad (Some state) more = more state

-- no further reply came
abbrev pub last_round : State → Option Message → Rounds
last_round state None = ends (done state.told)
last_round state (Some request) = asks (request ∷ []) (ends waits)

-- a reply came
abbrev pub round : State → Option Message → Option State → (State → Rounds) → Rounds
round state None next more = ends (done state.told)
round state (Some request) next more = asks (request ∷ []) (unless_bad next more)

-- The rounds from a tag on, where these messages come.
unfoldable pub rounds : (List ℕ → List ℕ) → ℕ → State → List Message → Rounds
rounds name tag state [] = last_round state (request tag state)
rounds name tag state (reply ∷ replies) = round state (request tag state) (answered name tag state reply) (λ next. rounds name (tag + 1) next replies)

-- a push of these objects, where these messages come
abbrev pub pushed : (List ℕ → List ℕ) → List Fetched → List Message → Rounds
pushed name objects messages = rounds name 1 (start objects) messages

-- its requests
abbrev pub requests_of : (List ℕ → List ℕ) → List Fetched → List Message → List Message
requests_of name objects messages = (pushed name objects messages).requests
