-- The identifiers of TypeObjects (DDS-XTypes 1.3, 7.3.4: EquivalenceHash and its kinds): when two are the same, and how one is printed and
-- read (the print is this profile's own).
use Rattle.std.specs.Prelude.{ℕ, List, ◌∷◌, Bool, ◌&&◌, ◌||◌, ◌==◌, Option, Some, None, Result, Ok, Err, drop, slice_index, nat_eq, if◌then◌else◌}
use Rattle.std.specs.Cmp.Lexicographic.{pointwise}
use Rattle.hex.specs.Hex.{encode_lower, decode_sized}
use Rattle.hex.specs.declared.error.FromHexError.{FromHexError}
use Rattle.type_trees.specs.declared.types.HashId.{HashId}

abbrev pub same_id : HashId → HashId → Bool
same_id a b = (a.kind == b.kind) && pointwise nat_eq a.hash b.hash

-- the kinds of a minimal and of a complete object: 0xF1 and 0xF2
abbrev pub is_object_kind : ℕ → Bool
is_object_kind kind = (kind == 241) || (kind == 242)

abbrev pub id_octets : HashId → List ℕ
id_octets id = id.kind ∷ id.hash

-- in print: 30 lower-case hexadecimal digits
abbrev pub id_text : HashId → List ℕ
id_text id = encode_lower (id_octets id)

-- the identifier of these 15 octets
abbrev pub id_of : List ℕ → Option HashId
id_of octets = if is_object_kind (slice_index octets 0) then Some (record { kind = slice_index octets 0; hash = drop 1 octets }) else None

abbrev pub id_decoded : Result (List ℕ) FromHexError → Option HashId
id_decoded (Ok octets) = id_of octets
id_decoded (Err e) = None

-- the identifier that 30 digits of either case print
abbrev pub id_of_digits : List ℕ → Option HashId
id_of_digits digits = id_decoded (decode_sized digits 15)
