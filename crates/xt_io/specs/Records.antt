-- The octets of a record, and of records one after another (bundles are this profile's own).
use Rattle.std.specs.Prelude.{◌≡◌, ℕ, ◌+◌, ◌≤◌, List, [], ◌∷◌, ◌++◌, length, None}
use Rattle.std.specs.Int.{w32, to_be_bytes}
use Rattle.xt_outside.specs.declared.records.Kind.{Kind}
use Rattle.xt_outside.specs.declared.records.Item.{Item}
use Rattle.xt_outside.specs.Bundles.{Bundle, octet_of, limit_of, bundle, bundle_from}

-- a record's head: the octet of its kind, and the length of its payload as a 32-bit number in big-endian order
abbrev pub head_octets : Kind → ℕ → List ℕ
head_octets kind n = octet_of kind ∷ to_be_bytes w32 n

-- a record: its head and its payload
abbrev pub record_octets : Kind → List ℕ → List ℕ
record_octets kind payload = head_octets kind (length payload) ++ payload

-- records one after another
abbrev pub items_octets : List Item → List ℕ
items_octets [] = []
items_octets (item ∷ items) = record_octets item.kind item.payload ++ items_octets items

-- each record begins where the one before it ends, the first at this place, and no payload is longer than its kind's may be
abbrev pub AreRecords : ℕ → List Item → Type 0
AreRecords at [] = Unit {0}
AreRecords at (item ∷ items) = (item.at ≡ at) × (length item.payload ≤ limit_of item.kind) × AreRecords (at + (5 + length item.payload)) items

-- the place behind records that begin at this place
abbrev pub end_of_items : ℕ → List Item → ℕ
end_of_items at [] = at
end_of_items at (item ∷ items) = end_of_items (at + (5 + length item.payload)) items

-- these items, and then those of the bundle
abbrev pub items_before : List Item → Bundle → Bundle
items_before items behind = record { items = items ++ behind.items; end = behind.end }

-- Records written one after another are read as these items, and what is written behind them as if they were not there.
abbrev pub AreRead : Type 0
AreRead = (items : List Item) (more at : ℕ) (rest : List ℕ) → AreRecords at items
    → bundle_from (length items + more) at (items_octets items ++ rest) ≡ items_before items (bundle_from more (end_of_items at items) rest)

-- So a bundle of records alone is these items.
abbrev pub AreWhole : Type 0
AreWhole = (items : List Item) → AreRecords 0 items → length items ≤ 1048576 → bundle (items_octets items) ≡ record { items = items; end = None }
