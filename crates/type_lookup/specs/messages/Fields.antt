-- The payload of a frame as a message of TypeLookup (DDS-XTypes 1.3, 7.6.3.3; the layout is this profile's own). Numbers are little-endian and
-- not aligned.
use Rattle.std.specs.Prelude.{◌≡◌, ℕ, zero, suc, ◌||◌, ◌==◌, nat_lt, if◌then◌else◌, Bool, true, false, List, [], ◌∷◌, ◌++◌, length, take, drop, slice_index, Option, Some, None, Result, Ok, Err}
use Rattle.std.specs.Int.{w32, from_le_bytes}
use Rattle.type_trees.specs.declared.types.HashId.{HashId}
use Rattle.type_trees.specs.Ids.{is_object_kind}
use Rattle.type_lookup.specs.declared.messages.messages.Fetched.{Fetched}
use Rattle.type_lookup.specs.declared.messages.messages.Needed.{Needed}
use Rattle.type_lookup.specs.declared.messages.messages.Operation.{Operation}
use Rattle.type_lookup.specs.declared.messages.messages.Operation.TheVariants as operation
use Rattle.type_lookup.specs.declared.messages.messages.Message.{Message}
use Rattle.type_lookup.specs.declared.messages.messages.Message.TheVariants.{GetTypes, GetTypeDependencies, PutTypes, Types, Dependencies, Put}
use Rattle.type_lookup.specs.declared.messages.messages.PayloadFault.{PayloadFault}
use Rattle.type_lookup.specs.declared.messages.messages.PayloadFault.TheVariants.{BadField, OutOfMemory}

-- What stands at the front of the octets: a value with the octets behind it, or a field that is cut, unknown or out
-- of its limit, which is the one with so many octets left.
pub data Field (T : Type 0) : Type 0 where
  got : T → List ℕ → Field T
  bad : ℕ → Field T

-- a field, and then what follows it
abbrev pub then_read : {A B : Type 0} → Field A → (A → List ℕ → Field B) → Field B
then_read (got value rest) next = next value rest
then_read (bad left) next = bad left

abbrev pub octet_at : List ℕ → Field ℕ
octet_at [] = bad 0
octet_at (octet ∷ octets) = got octet octets

abbrev pub number_at : List ℕ → Field ℕ
number_at octets = if nat_lt (length octets) 4 then bad (length octets) else got (from_le_bytes w32 (take 4 octets)) (drop 4 octets)

-- a number that is at most this
abbrev pub at_most : ℕ → List ℕ → Field ℕ
at_most most octets = then_read (number_at octets) (λ n rest. if nat_lt most n then bad (length octets) else got n rest)

abbrev pub text_at : ℕ → List ℕ → Field (List ℕ)
text_at n octets = if nat_lt (length octets) n then bad (length octets) else got (take n octets) (drop n octets)

abbrev pub id_of : List ℕ → HashId
id_of octets = record { kind = slice_index octets 0; hash = take 14 (drop 1 octets) }

abbrev pub id_at : List ℕ → Field HashId
id_at octets = if nat_lt (length octets) 15 then bad (length octets) else if is_object_kind (slice_index octets 0) then got (id_of octets) (drop 15 octets) else bad (length octets)

-- an object and its length
abbrev pub object_at : List ℕ → Field (List ℕ)
object_at octets = then_read (at_most 131072 octets) text_at

abbrev pub fetched_at : List ℕ → Field Fetched
fetched_at octets = then_read (id_at octets) (λ id rest. then_read (object_at rest) (λ object end. got (record { id = id; octets = object }) end))

abbrev pub needed_at : List ℕ → Field Needed
needed_at octets = then_read (id_at octets) (λ id rest. then_read (number_at rest) (λ size end. got (record { id = id; size = size }) end))

-- the outcome of one object: Added, Known, NotAnObject, Clash or Full
abbrev pub outcome_at : List ℕ → Field ℕ
outcome_at octets = then_read (octet_at octets) (λ outcome rest. if nat_lt 4 outcome then bad (length octets) else got outcome rest)

-- a continuation point, of 0 or 4 octets
abbrev pub point_at : List ℕ → Field (List ℕ)
point_at octets = then_read (octet_at octets) (λ n rest. if n == 0 || n == 4 then text_at n rest else bad (length octets))

-- this value, and then those of the field
abbrev pub put_first : {T : Type 0} → T → Field (List T) → Field (List T)
put_first value (got values rest) = got (value ∷ values) rest
put_first value (bad left) = bad left

-- so many of an item
abbrev pub times : {T : Type 0} → (List ℕ → Field T) → ℕ → List ℕ → Field (List T)
times item zero octets = got [] octets
times item (suc n) octets = then_read (item octets) (λ value rest. put_first value (times item n rest))

-- their number, and then the items
abbrev pub counted_at : {T : Type 0} → (List ℕ → Field T) → List ℕ → Field (List T)
counted_at item octets = then_read (at_most 1024 octets) (times item)

-- whether the message is a reply
abbrev pub direction_at : List ℕ → Field Bool
direction_at octets = then_read (octet_at octets) (λ direction rest. if direction == 0 then got false rest else if direction == 1 then got true rest else bad (length octets))

-- The operations' numbers, each the hash identifier of its name: getTypes, getTypeDependencies, putTypes.
abbrev pub number_of : Operation → ℕ
number_of operation.GetTypes = 25318099
number_of operation.GetTypeDependencies = 119907363
number_of operation.PutTypes = 68426699

abbrev pub operation_of : ℕ → Option Operation
operation_of n = if n == 25318099 then Some operation.GetTypes else if n == 119907363 then Some operation.GetTypeDependencies else if n == 68426699 then Some operation.PutTypes else None

abbrev pub known_operation : ℕ → Option Operation → List ℕ → Field Operation
known_operation left None rest = bad left
known_operation left (Some operation) rest = got operation rest

abbrev pub operation_at : List ℕ → Field Operation
operation_at octets = then_read (number_at octets) (λ n rest. known_operation (length octets) (operation_of n) rest)

-- the fields behind the tag
abbrev pub body_at : Bool → Operation → ℕ → List ℕ → Field Message
body_at false operation.GetTypes tag octets = then_read (counted_at id_at octets) (λ ids rest. got (GetTypes tag ids) rest)
body_at false operation.GetTypeDependencies tag octets = then_read (counted_at id_at octets) (λ ids rest. then_read (point_at rest) (λ point end. got (GetTypeDependencies tag ids point) end))
body_at false operation.PutTypes tag octets = then_read (counted_at object_at octets) (λ objects rest. got (PutTypes tag objects) rest)
body_at true operation.GetTypes tag octets = then_read (counted_at fetched_at octets) (λ objects rest. got (Types tag objects) rest)
body_at true operation.GetTypeDependencies tag octets = then_read (counted_at needed_at octets) (λ needed rest. then_read (point_at rest) (λ point end. got (Dependencies tag needed point) end))
body_at true operation.PutTypes tag octets = then_read (counted_at outcome_at octets) (λ outcomes rest. got (Put tag outcomes) rest)

abbrev pub message_at : List ℕ → Field Message
message_at octets = then_read (direction_at octets) (λ reply behind. then_read (operation_at behind) (λ operation rest. then_read (number_at rest) (λ tag end. body_at reply operation tag end)))

-- nothing may follow
abbrev pub alone : {T : Type 0} → Field T → Field T
alone (got value []) = got value []
alone (got value (octet ∷ octets)) = bad (length (octet ∷ octets))
alone (bad left) = bad left

-- What a payload is: a message, or its first bad field.
unfoldable pub payload : List ℕ → Field Message
payload octets = alone (message_at octets)

-- Reading a field gave what stands at the front of the octets, and left those behind it; memory may be wanting.
abbrev pub Reads : {T : Type 0} → Field T → Result T PayloadFault → List ℕ → Type 0
Reads field (Ok value) after = field ≡ got value after
Reads field (Err (BadField left)) after = field ≡ bad left
Reads field (Err OutOfMemory) after = Unit {0}

-- values, and then those of the field
abbrev pub put_all : {T : Type 0} → List T → Field (List T) → Field (List T)
put_all first (got values rest) = got (first ++ values) rest
put_all first (bad left) = bad left
