-- What holds of every list of lawful events (this profile's own).
use Rattle.std.specs.Prelude.{◌≡◌, ℕ, List, [], ◌++◌, Option, Some, take}
use Rattle.type_trees.specs.declared.types.HashId.{HashId}
use Rattle.cell_core.specs.declared.event.Event.{Event}
use Rattle.cell_core.specs.Probes.{Place}
use Rattle.cell_core.specs.Cells.{Held, cells, Stays, found, FoundStays, AreLawful}
use Rattle.cell_core.specs.Finds.{Finds}

pub record CoreLaws : Type 0 where
  -- no full cell changes
  pub full_cells_stay : (events more : List Event) → Stays (cells events) (cells (events ++ more))
  -- each identifier stands in at most one cell
  pub one_cell : (events : List Event) → AreLawful [] events → (p q : Place) (x y : Held) → cells events p ≡ Some x → cells events q ≡ Some y → x.id ≡ y.id → p ≡ q
  -- what is found stays found
  pub found_stays : (events more : List Event) → FoundStays (cells events) (cells (events ++ more))
  -- two finds of one identifier that both answer an object answer the same
  pub finds_agree : (events : List Event) → AreLawful [] events → (id : HashId) (i j : ℕ) (ps qs : List ℕ) (x y : ℕ) → Finds events id i ps (Some x) → Finds events id j qs (Some y) → x ≡ y
  -- a find that begins after the identifier is found answers that object
  pub found_is_answered : (events : List Event) (id : HashId) (from : ℕ) (object : ℕ) (positions : List ℕ) (answer : Option ℕ) → found (cells (take from events)) id ≡ Some object → Finds events id from positions answer → answer ≡ Some object
