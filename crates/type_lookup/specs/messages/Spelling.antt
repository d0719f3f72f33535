-- The one spelling of a message of TypeLookup as a payload, and of a payload as a frame (own, but for what is asked: DDS-XTypes 1.3, 7.6.3.3).
use Rattle.std.specs.Prelude.{◌≡◌, ℕ, ◌≤◌, ◌<◌, ◌^◌, ◌⊎◌, true, List, [], ◌∷◌, ◌++◌, length, slice_index}
use Rattle.std.specs.List.{All}
use Rattle.std.specs.Int.{w32, to_le_bytes, to_be_bytes}
use Rattle.type_trees.specs.declared.types.HashId.{HashId}
use Rattle.type_lookup.specs.declared.messages.messages.Fetched.{Fetched}
use Rattle.type_lookup.specs.declared.messages.messages.Needed.{Needed}
use Rattle.type_lookup.specs.declared.messages.messages.Operation.{Operation}
use Rattle.type_lookup.specs.declared.messages.messages.Operation.TheVariants as operation
use Rattle.type_lookup.specs.declared.messages.messages.Message.{Message}
use Rattle.type_lookup.specs.declared.messages.messages.Message.TheVariants.{GetTypes, GetTypeDependencies, PutTypes, Types, Dependencies, Put}
use Rattle.type_lookup.specs.messages.Fields.{number_of, payload, got}
use Rattle.type_trees.specs.Ids.{is_object_kind, id_octets}

abbrev pub number_octets : ℕ → List ℕ
number_octets n = to_le_bytes w32 n

-- a length, and so many octets
abbrev pub object_octets : List ℕ → List ℕ
object_octets object = number_octets (length object) ++ object

abbrev pub fetched_octets : Fetched → List ℕ
fetched_octets fetched = id_octets fetched.id ++ object_octets fetched.octets

abbrev pub needed_octets : Needed → List ℕ
needed_octets needed = id_octets needed.id ++ number_octets needed.size

abbrev pub point_octets : List ℕ → List ℕ
point_octets point = length point ∷ point

abbrev pub all_octets : {T : Type 0} → (T → List ℕ) → List T → List ℕ
all_octets item [] = []
all_octets item (x ∷ xs) = item x ++ all_octets item xs

-- their number, and then the items
abbrev pub counted_octets : {T : Type 0} → (T → List ℕ) → List T → List ℕ
counted_octets item items = number_octets (length items) ++ all_octets item items

abbrev pub head_octets : ℕ → Operation → ℕ → List ℕ
head_octets direction operation tag = (direction ∷ number_octets (number_of operation)) ++ number_octets tag

unfoldable pub payload_of : Message → List ℕ
payload_of (GetTypes tag ids) = head_octets 0 operation.GetTypes tag ++ counted_octets id_octets ids
payload_of (GetTypeDependencies tag ids point) = head_octets 0 operation.GetTypeDependencies tag ++ counted_octets id_octets ids ++ point_octets point
payload_of (PutTypes tag objects) = head_octets 0 operation.PutTypes tag ++ counted_octets object_octets objects
payload_of (Types tag objects) = head_octets 1 operation.GetTypes tag ++ counted_octets fetched_octets objects
payload_of (Dependencies tag needed point) = head_octets 1 operation.GetTypeDependencies tag ++ counted_octets needed_octets needed ++ point_octets point
payload_of (Put tag outcomes) = head_octets 1 operation.PutTypes tag ++ object_octets outcomes

abbrev pub frame_of : Message → List ℕ
frame_of message = to_be_bytes w32 (length (payload_of message)) ++ payload_of message

-- ---- the limits and the rules on fields

abbrev pub IsKnownId : HashId → Type 0
IsKnownId id = is_object_kind id.kind ≡ true

-- as long as an object's text may be
abbrev pub HasObjectLength : List ℕ → Type 0
HasObjectLength object = length object ≤ 131072

abbrev pub IsFetched : Fetched → Type 0
IsFetched fetched = IsKnownId fetched.id × HasObjectLength fetched.octets

abbrev pub IsNeeded : Needed → Type 0
IsNeeded needed = IsKnownId needed.id

abbrev pub IsPoint : List ℕ → Type 0
IsPoint point = (length point ≡ 0) ⊎ (length point ≡ 4)

-- at most so many, each of them well formed
pub record Keeps {T : Type 0} (P : T → Type 0) (items : List T) : Type 0 where
  pub count : length items ≤ 1024
  pub each : All P items

abbrev pub KeepsLimits : Message → Type 0
KeepsLimits (GetTypes tag ids) = Keeps IsKnownId ids
KeepsLimits (GetTypeDependencies tag ids point) = Keeps IsKnownId ids × IsPoint point
KeepsLimits (PutTypes tag objects) = Keeps HasObjectLength objects
KeepsLimits (Types tag objects) = Keeps IsFetched objects
KeepsLimits (Dependencies tag needed point) = Keeps IsNeeded needed × IsPoint point
KeepsLimits (Put tag outcomes) = Keeps (λ outcome. outcome ≤ 4) outcomes

-- The message has a frame.
pub record HasFrame (message : Message) : Type 0 where
  pub limits : KeepsLimits message
  pub fits : length (payload_of message) ≤ 262144

-- ---- what holds of each value of these types: octets have 8 bits, numbers 32, and hashes 14 octets

abbrev pub AreOctets : List ℕ → Type 0
AreOctets octets = (i : ℕ) → slice_index octets i < 256

abbrev pub HasHash : HashId → Type 0
HasHash id = length id.hash ≡ 14

abbrev pub IsFetchedInRange : Fetched → Type 0
IsFetchedInRange fetched = HasHash fetched.id

abbrev pub IsNeededInRange : Needed → Type 0
IsNeededInRange needed = HasHash needed.id × (needed.size < 2 ^ 32)

abbrev pub InRange : Message → Type 0
InRange (GetTypes tag ids) = (tag < 2 ^ 32) × All HasHash ids
InRange (GetTypeDependencies tag ids point) = (tag < 2 ^ 32) × All HasHash ids
InRange (PutTypes tag objects) = tag < 2 ^ 32
InRange (Types tag objects) = (tag < 2 ^ 32) × All IsFetchedInRange objects
InRange (Dependencies tag needed point) = (tag < 2 ^ 32) × All IsNeededInRange needed
InRange (Put tag outcomes) = tag < 2 ^ 32

-- ---- the law

-- What reads as a message is spelled as it.
abbrev pub IsSpelled : Type 0
IsSpelled = (octets rest : List ℕ) (message : Message) → AreOctets octets → payload octets ≡ got message rest → KeepsLimits message × (octets ≡ payload_of message)
