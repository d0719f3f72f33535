-- One number for what a reader keeps while a payload is read (this profile's own). A `Standing` has a number for the name of what a
-- cursor goes over, so a cursor over a reader's payload names it by this one.
use Rattle.std.specs.Prelude.{ℕ, suc, ◌+◌, ◌*◌, List, [], ◌∷◌, map, Option, Some, None}
use Rattle.xt_outside.specs.Bundles.{Bundle, octet_of}
use Rattle.xt_outside.specs.declared.records.Item.{Item}
use Rattle.xt_outside.specs.declared.records.RecordFault.{RecordFault}
use Rattle.xt_outside.specs.declared.records.RecordFault.TheVariants.{ReadFault, Truncated, UnknownKind, TooLong, TooMany, OutOfMemory}
use Rattle.xt_io.specs.declared.bundle.Pending.{Pending}
use Rattle.xt_io.specs.Readers.{Reading, inside}

-- one number for two, and for those of a list: no two lists have the same
unfoldable pub number_of_two : ℕ → ℕ → ℕ
number_of_two a b = (a + b) * (a + b) + a

unfoldable pub number_of : List ℕ → ℕ
number_of [] = 0
number_of (x ∷ xs) = suc (number_of_two x (number_of xs))

abbrev pub fault_numbers : Option RecordFault → List ℕ
fault_numbers None = []
fault_numbers (Some ReadFault) = 1 ∷ []
fault_numbers (Some (Truncated at kind)) = 2 ∷ at ∷ octet_of kind ∷ []
fault_numbers (Some (UnknownKind at octet)) = 3 ∷ at ∷ octet ∷ []
fault_numbers (Some (TooLong at kind n)) = 4 ∷ at ∷ octet_of kind ∷ n ∷ []
fault_numbers (Some (TooMany at)) = 5 ∷ at ∷ []
fault_numbers (Some OutOfMemory) = 6 ∷ []

abbrev pub item_numbers : Item → List ℕ
item_numbers item = octet_of item.kind ∷ item.at ∷ item.payload

abbrev pub item_number : Item → ℕ
item_number item = number_of (item_numbers item)

abbrev pub bundle_numbers : Option Bundle → List ℕ
bundle_numbers None = []
bundle_numbers (Some bundle) = number_of (fault_numbers bundle.end) ∷ map item_number bundle.items

abbrev pub pending_numbers : Option Pending → List ℕ
pending_numbers None = []
pending_numbers (Some pending) = octet_of pending.head.kind ∷ pending.head.at ∷ pending.head.length ∷ pending.rest ∷ []

abbrev pub octets_numbers : Option (List ℕ) → List ℕ
octets_numbers None = []
octets_numbers (Some octets) = 1 ∷ octets

-- What is left of the payload, the records behind the payload, the payload's head, how many records may follow, and of the source its count of faults and its name.
abbrev pub mark_numbers : Reading → List ℕ
mark_numbers reader = number_of (octets_numbers (inside reader)) ∷ number_of (bundle_numbers reader.ahead) ∷ number_of (pending_numbers reader.pending) ∷ reader.may_follow ∷ reader.faults ∷ reader.name

unfoldable pub mark_of : Reading → ℕ
mark_of reader = number_of (mark_numbers reader)
