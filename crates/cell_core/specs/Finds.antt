-- A find in a list of events: gets of an identifier's probed cells in order, among which other events may stand (this profile's own).
use Rattle.std.specs.Prelude.{◌≡◌, ℕ, suc, ◌≤◌, List, [], ◌∷◌, Bool, true, false, Option, None, Some, take, slice_get}
use Rattle.type_trees.specs.declared.types.HashId.{HashId}
use Rattle.type_trees.specs.Ids.{same_id}
use Rattle.cell_core.specs.declared.event.Event.{Event}
use Rattle.cell_core.specs.declared.event.Event.TheVariants.{Get}
use Rattle.cell_core.specs.Probes.{Place, probes}
use Rattle.cell_core.specs.Cells.{Held, cells}

abbrev pub Choose : Bool → Type 0 → Type 0 → Type 0
Choose true P Q = P
Choose false P Q = Q

-- a get showed this: the find ends there with an answer, or goes on after a stranger
abbrev pub Shows : Option Held → HashId → List ℕ → Option ℕ → Type 0 → Type 0
Shows None id rest answer GoesOn = (rest ≡ []) × (answer ≡ None)
Shows (Some held) id rest answer GoesOn = Choose (same_id held.id id) ((rest ≡ []) × (answer ≡ Some held.object)) GoesOn

-- the events at these positions, which rise from `from` on, are a find over these cells, with that answer
abbrev pub FindsOver : List Event → HashId → List Place → ℕ → List ℕ → Option ℕ → Type 0
FindsOver events id [] from positions answer = (positions ≡ []) × (answer ≡ None)
FindsOver events id (p ∷ cells_left) from positions answer =
    (n : ℕ) × (rest : List ℕ) × (positions ≡ n ∷ rest) × (from ≤ n) × (slice_get events n ≡ Some (Get p.0 p.1))
    × Shows (cells (take n events) p) id rest answer (FindsOver events id cells_left (suc n) rest answer)

abbrev pub Finds : List Event → HashId → ℕ → List ℕ → Option ℕ → Type 0
Finds events id from positions answer = FindsOver events id (probes id) from positions answer
