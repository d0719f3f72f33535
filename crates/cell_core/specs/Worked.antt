-- Worked cells and the probes of identifiers, by computation (this profile's own).
use Rattle.std.specs.Prelude.{◌≡◌, ℕ, List, [], ◌∷◌, None, Some}
use Rattle.std.proofs.Common.{refl}
use Rattle.type_trees.specs.declared.types.HashId.{HashId}
use Rattle.cell_core.specs.declared.event.Event.{Event}
use Rattle.cell_core.specs.declared.event.Event.TheVariants.{Set, Get}
use Rattle.cell_core.specs.declared.event.Reply.TheVariants.{Kept, Was, Empty}
use Rattle.cell_core.specs.Probes.{probe_at, start_of, cells_at, probes}
use Rattle.cell_core.specs.Cells.{cells, reply_to, found}

abbrev zeros : List ℕ
zeros = 0 ∷ 0 ∷ 0 ∷ 0 ∷ 0 ∷ 0 ∷ []

-- two identifiers whose first probed cells are one: 3 and 67 leave the same over 64
abbrev three : HashId
three = record { kind = 241; hash = 3 ∷ 0 ∷ 0 ∷ 0 ∷ 0 ∷ 0 ∷ 0 ∷ 0 ∷ zeros }

abbrev other : HashId
other = record { kind = 241; hash = 67 ∷ 0 ∷ 0 ∷ 0 ∷ 0 ∷ 0 ∷ 0 ∷ 0 ∷ zeros }

abbrev largest : List ℕ
largest = 255 ∷ 255 ∷ 255 ∷ 255 ∷ 255 ∷ 255 ∷ 255 ∷ 255 ∷ zeros

levels : cells_at 0 ∷ cells_at 1 ∷ cells_at 7 ∷ [] ≡ 64 ∷ 256 ∷ 1048576 ∷ []
levels = refl

-- the second octet counts 256, and a probe past the level's last cell goes on at its first
probed : probe_at three.hash 0 0 ∷ probe_at other.hash 0 0 ∷ probe_at other.hash 1 2 ∷ probe_at largest 0 0 ∷ probe_at largest 0 1 ∷ probe_at (1 ∷ 2 ∷ 0 ∷ 0 ∷ 0 ∷ 0 ∷ 0 ∷ 0 ∷ zeros) 2 0 ∷ [] ≡ 3 ∷ 3 ∷ 69 ∷ 63 ∷ 0 ∷ 513 ∷ []
unfolding probe_at start_of
probed = refl

-- the first of two sets stays
first_stays : cells (Set 0 3 1 three ∷ Set 0 3 2 other ∷ []) (0, 3) ≡ Some (record { object = 1; id = three })
first_stays = refl

replies : reply_to (cells []) (Set 0 3 1 three) ∷ reply_to (cells (Set 0 3 1 three ∷ [])) (Set 0 3 2 other) ∷ reply_to (cells (Set 0 3 1 three ∷ [])) (Get 0 4) ∷ [] ≡ Kept ∷ Was 1 three ∷ Empty ∷ []
replies = refl

-- a stranger in the first cell sends the second identifier to the next
strangers : found (cells (Set 0 3 1 three ∷ Set 0 4 2 other ∷ [])) other ≡ Some 2
unfolding probes probe_at start_of
strangers = refl

-- an empty cell ends the look
gap : found (cells (Set 0 4 2 other ∷ [])) other ≡ None
unfolding probes probe_at start_of
gap = refl
