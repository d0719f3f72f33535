-- Replies to the requests of TypeLookup (DDS-XTypes 1.3, 7.6.3.3). The order, the limits, the pages and the outcomes are this profile's own.
use Rattle.std.specs.Prelude.{◌≡◌, ◌≢◌, ℕ, ◌+◌, ◌-◌, ◌≤◌, List, [], ◌∷◌, Bool, true, false, cond, not, Option, Some, None, length, map, filter, take, drop, nat_lt, ◌↔◌}
use Rattle.std.specs.Int.{w32, from_le_bytes, to_le_bytes}
use Rattle.type_trees.specs.declared.types.HashId.{HashId}
use Rattle.type_object.specs.Pools.{IsObject}
use Rattle.type_object.specs.References.{is_among, once}
use Rattle.type_lookup.specs.declared.messages.messages.Fetched.{Fetched}
use Rattle.type_lookup.specs.declared.messages.messages.Needed.{Needed}
use Rattle.type_lookup.specs.declared.messages.messages.Message.{Message}
use Rattle.type_lookup.specs.declared.messages.messages.Message.TheVariants.{GetTypes, GetTypeDependencies, PutTypes, Types, Dependencies, Put}
use Rattle.type_lookup.specs.messages.Spelling.{fetched_octets}
use Rattle.type_object.specs.Names.{named_by}
use Rattle.type_registry.specs.Held.{Held}
use Rattle.type_registry.specs.Passed.{PassView, known, fulls}
use Rattle.type_object.specs.visits.Visits.{Known, met}

-- ---- getTypes

abbrev pub and_known : HashId → Option (List ℕ) → List Fetched → List Fetched
and_known id None fetched = fetched
and_known id (Some octets) fetched = record { id = id; octets = octets } ∷ fetched

-- the known objects of these identifiers, in order
abbrev pub objects_of : Known → List HashId → List Fetched
objects_of known [] = []
objects_of known (id ∷ ids) = and_known id (known id) (objects_of known ids)

-- those in front of the first that has no room
abbrev pub within : ℕ → List Fetched → List Fetched
within room [] = []
within room (object ∷ objects) = cond (nat_lt room (length (fetched_octets object))) [] (object ∷ within (room - length (fetched_octets object)) objects)

-- Each asked identifier once, in the order asked, in front of the first object with which the payload would pass 262,144 octets. The fields
-- before the objects take 13.
unfoldable pub served : Known → List HashId → List Fetched
served known ids = within 262131 (objects_of known (once [] ids))

-- ---- getTypeDependencies

-- The known objects that those of the asked identifiers refer to, without the asked ones, at most 4,096. Of 5,120 objects that are met, at
-- most 1,024 were asked.
unfoldable pub depends : Known → List HashId → List HashId
depends known ids = take 4096 (filter (λ id. not (is_among id ids)) (met known 5120 ids))

abbrev pub size_of : Option (List ℕ) → ℕ
size_of None = 0
size_of (Some octets) = length octets

abbrev pub needed : Known → HashId → Needed
needed known id = record { id = id; size = size_of (known id) }

-- the index of the first entry of a page, by its continuation point
abbrev pub index_of : List ℕ → ℕ
index_of [] = 0
index_of (octet ∷ octets) = from_le_bytes w32 (octet ∷ octets)

abbrev pub page : Known → List HashId → ℕ → List Needed
page known ids index = map (needed known) (take 64 (drop index ids))

-- the continuation point of what follows a page
abbrev pub point_after : List HashId → ℕ → List ℕ
point_after ids index = cond (nat_lt (index + 64) (length ids)) (to_le_bytes w32 (index + 64)) []

-- ---- putTypes

-- What the outcome of one object says: 0 added, 1 known, 2 no object, 3 another object has its identifier, 4 no room.
pub record IsOutcome (name : List ℕ → List ℕ) (before : Known) (now : PassView) (object : List ℕ) (outcome : ℕ) : Type 0 where
  pub range : outcome ≤ 4
  -- exactly where the octets are no object's text
  pub none : (outcome ≡ 2) ↔ (IsObject object → ⊥)
  pub kept : outcome ≤ 1 → known now (named_by name object) ≡ Some object
  pub clash : outcome ≡ 3 → (other : List ℕ) × (known now (named_by name object) ≡ Some other) × (other ≢ object)
  pub full : outcome ≡ 4 → (held : List Held) × (fulls now (named_by name object) ≡ Some held)
  -- where the identifier was known before the request
  pub old : (octets : List ℕ) → before (named_by name object) ≡ Some octets → (outcome ≢ 0) × (outcome ≢ 4)

abbrev pub AreOutcomes : (List ℕ → List ℕ) → Known → PassView → List (List ℕ) → List ℕ → Type 0
AreOutcomes name before now [] [] = Unit {0}
AreOutcomes name before now [] (outcome ∷ outcomes) = ⊥
AreOutcomes name before now (object ∷ objects) [] = ⊥
AreOutcomes name before now (object ∷ objects) (outcome ∷ outcomes) = IsOutcome name before now object outcome × AreOutcomes name before now objects outcomes

-- ---- replies

abbrev pub is_request : Message → Bool
is_request (GetTypes tag ids) = true
is_request (GetTypeDependencies tag ids point) = true
is_request (PutTypes tag objects) = true
is_request (Types tag objects) = false
is_request (Dependencies tag needed point) = false
is_request (Put tag outcomes) = false

abbrev pub dependencies : Known → ℕ → List HashId → ℕ → Message
dependencies known tag ids index = Dependencies tag (page known ids index) (point_after ids index)

-- The message replies to the request, where this is what is known and full, and that was known before the request.
abbrev pub IsReply : (List ℕ → List ℕ) → Known → PassView → Message → Message → Type 0
IsReply name before now (GetTypes tag ids) message = message ≡ Types tag (served (known now) ids)
IsReply name before now (GetTypeDependencies tag ids point) message = message ≡ dependencies (known now) tag (depends (known now) ids) (index_of point)
IsReply name before now (PutTypes tag objects) message = (outcomes : List ℕ) × (message ≡ Put tag outcomes) × AreOutcomes name before now objects outcomes
IsReply name before now (Types tag objects) message = ⊥
IsReply name before now (Dependencies tag needed point) message = ⊥
IsReply name before now (Put tag outcomes) message = ⊥
