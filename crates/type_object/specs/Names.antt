-- The identifier of an object (DDS-XTypes 1.3, 7.3.4: EquivalenceHash; RFC 1321).
use Rattle.std.specs.Prelude.{ℕ, List, take, slice_index}
use Rattle.md5.specs.Md5.{md5}
use Rattle.type_trees.specs.declared.types.HashId.{HashId}

-- the first 14 octets of the MD5 of an object's text
abbrev pub hash_of : List ℕ → List ℕ
hash_of bs = take 14 (md5 bs)

-- the identifier of a text, where texts are hashed so: its kind, which stands behind the count of its octets, and its hash
abbrev pub named_by : (List ℕ → List ℕ) → List ℕ → HashId
named_by hash bs = record { kind = slice_index bs 4; hash = hash bs }

-- an object's identifier
abbrev pub named : List ℕ → HashId
named = named_by hash_of
