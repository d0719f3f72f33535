-- A bundle, which is this profile's own: records one after another. A record is the octet of its kind, the length of
-- its payload as a 32-bit number in big-endian order, and the payload. At most 1,048,576 records stand in a bundle.
use Rattle.std.specs.Prelude.{ℕ, zero, suc, ◌+◌, List, [], ◌∷◌, length, take, drop, Option, Some, None, nat_lt, ◌==◌, if◌then◌else◌}
use Rattle.std.specs.Int.{w32, from_be_bytes}
use Rattle.xt_outside.specs.declared.records.Kind.{Kind}
use Rattle.xt_outside.specs.declared.records.Kind.TheVariants.{Object, Sample, Idl, Json, Note}
use Rattle.xt_outside.specs.declared.records.Head.{Head}
use Rattle.xt_outside.specs.declared.records.Item.{Item}
use Rattle.xt_outside.specs.declared.records.RecordFault.{RecordFault}
use Rattle.xt_outside.specs.declared.records.RecordFault.TheVariants.{Truncated, UnknownKind, TooLong, TooMany}

-- the kind that an octet stands for
abbrev pub kind_of : ℕ → Option Kind
kind_of octet = if octet == 1 then Some Object else if octet == 2 then Some Sample else if octet == 3 then Some Idl else if octet == 4 then Some Json else if octet == 5 then Some Note else None

-- the octet of a kind
abbrev pub octet_of : Kind → ℕ
octet_of Object = 1
octet_of Sample = 2
octet_of Idl = 3
octet_of Json = 4
octet_of Note = 5

-- the greatest length of a payload
abbrev pub limit_of : Kind → ℕ
limit_of Object = 131072
limit_of Sample = 1048576
limit_of Idl = 1048576
limit_of Json = 8388608
limit_of Note = 65536

-- What stands at the front of the octets: their end, a head with the octets after it, or what is no record.
pub data Front : Type 0 where
  ended : Front
  headed : Head → List ℕ → Front
  broken : RecordFault → Front

-- a length within the limit of its kind
abbrev pub sized_at : Kind → ℕ → ℕ → List ℕ → Front
sized_at kind at n octets = if nat_lt (limit_of kind) n then broken (TooLong at kind n) else headed (record { kind = kind; at = at; length = n }) octets

-- the length, behind a kind
abbrev pub length_at : Kind → ℕ → List ℕ → Front
length_at kind at octets = if nat_lt (length octets) 4 then broken (Truncated at kind) else sized_at kind at (from_be_bytes w32 (take 4 octets)) (drop 4 octets)

abbrev pub known_at : Option Kind → ℕ → ℕ → List ℕ → Front
known_at None octet at octets = broken (UnknownKind at octet)
known_at (Some kind) octet at octets = length_at kind at octets

unfoldable pub front : ℕ → List ℕ → Front
front at [] = ended
front at (octet ∷ octets) = known_at (kind_of octet) octet at octets

-- The records, and where they do not end whole, the one fault that ends them.
pub record Bundle : Type 0 where
  pub items : List Item
  pub end : Option RecordFault

abbrev pub nothing : Bundle
nothing = record { items = []; end = None }

abbrev pub only_fault : RecordFault → Bundle
only_fault fault = record { items = []; end = Some fault }

abbrev pub before_bundle : Item → Bundle → Bundle
before_bundle item bundle = record { items = item ∷ bundle.items; end = bundle.end }

-- the input ends inside the record of this head
abbrev pub cut : Head → Bundle
cut head = only_fault (Truncated head.at head.kind)

-- the record of a head and its payload
abbrev pub item_of : Head → List ℕ → Item
item_of head payload = record { kind = head.kind; at = head.at; payload = payload }

-- The record whose payload is at the front of the octets, and then the others; it is cut where these are too few.
unfoldable pub with_payload : Head → List ℕ → Bundle → Bundle
with_payload head octets bundle = if nat_lt (length octets) head.length then cut head else before_bundle (item_of head (take head.length octets)) bundle

-- where the octet after a record stands
abbrev pub after_head : ℕ → Head → ℕ
after_head at head = at + (5 + head.length)

-- no record may follow
abbrev pub none_may_follow : ℕ → List ℕ → Bundle
none_may_follow at [] = nothing
none_may_follow at (octet ∷ octets) = only_fault (TooMany at)

-- what a front stands for, where this is the bundle behind a head
abbrev pub bundle_of_front : (Head → List ℕ → Bundle) → Front → Bundle
bundle_of_front behind ended = nothing
bundle_of_front behind (broken fault) = only_fault fault
bundle_of_front behind (headed head rest) = behind head rest

-- The bundle of octets that begin at an offset, where at most so many records may follow.
unfoldable pub bundle_from : ℕ → ℕ → List ℕ → Bundle
bundle_from zero at octets = none_may_follow at octets
bundle_from (suc more) at octets = bundle_of_front (λ head rest. with_payload head rest (bundle_from more (after_head at head) (drop head.length rest))) (front at octets)

-- The bundle that the octets are.
abbrev pub bundle : List ℕ → Bundle
bundle octets = bundle_from 1048576 0 octets
