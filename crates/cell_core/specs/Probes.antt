-- Where an identifier may stand: 8 probed cells on each of 8 levels (own).
use Rattle.std.specs.Prelude.{◌≡◌, ℕ, zero, suc, ◌+◌, ◌*◌, ◌%◌, ◌/◌, ◌^◌, ◌<◌, List, [], ◌∷◌}
use Rattle.std.specs.Int.{w64, from_le_bytes}
use Rattle.type_trees.specs.declared.types.HashId.{HashId}

-- how many cells a level has
abbrev pub cells_at : ℕ → ℕ
cells_at level = 64 * 4 ^ level

-- the number that the first eight octets of a hash are, the least octet first
unfoldable pub start_of : List ℕ → ℕ
start_of hash = from_le_bytes w64 hash

unfoldable pub probe_at : List ℕ → ℕ → ℕ → ℕ
probe_at hash level i = (start_of hash + i) % cells_at level

-- the cell is one of the identifier's probed cells of that level
abbrev pub IsProbed : HashId → ℕ → ℕ → Type 0
IsProbed id level cell = (i : ℕ) × (i < 8) × (probe_at id.hash level i ≡ cell)

-- a level and a cell of it
abbrev pub Place : Type 0
Place = ℕ × ℕ

-- probed cell number p of the identifier: 8 on each level, the levels in order
abbrev pub place : HashId → ℕ → Place
place id p = (p / 8, probe_at id.hash (p / 8) (p % 8))

-- so many probed cells, from number p on
abbrev pub places : HashId → ℕ → ℕ → List Place
places id p zero = []
places id p (suc more) = place id p ∷ places id (suc p) more

-- all probed cells
unfoldable pub probes : HashId → List Place
probes id = places id 0 64
