-- The cells after a list of events (this profile's own: the standard leaves it to each product how types are shared).
use Rattle.std.specs.Prelude.{◌≡◌, ◌≢◌, ℕ, ◌<◌, List, [], ◌∷◌, ◌++◌, Bool, true, false, ◌&&◌, nat_eq, Option, None, Some, ◌⊎◌}
use Rattle.std.specs.Str.{bytes_eq}
use Rattle.type_trees.specs.declared.types.HashId.{HashId}
use Rattle.type_trees.specs.Ids.{same_id}
use Rattle.cell_core.specs.declared.event.Event.{Event}
use Rattle.cell_core.specs.declared.event.Event.TheVariants.{Set, Get}
use Rattle.cell_core.specs.declared.event.Reply.{Reply}
use Rattle.cell_core.specs.declared.event.Reply.TheVariants.{Kept, Was, Empty}
use Rattle.cell_core.specs.Probes.{Place, cells_at, probes}

-- what a full cell holds
pub record Held : Type 0 where
  pub object : ℕ
  pub id : HashId

abbrev pub Cells : Type 0
Cells = Place → Option Held

abbrev pub is_at : Place → Place → Bool
is_at p q = nat_eq p.0 q.0 && nat_eq p.1 q.1

abbrev pub either : Bool → Option Held → Option Held → Option Held
either true x y = x
either false x y = y

-- a cell holds what the first set of it put there: a set fills an empty cell and changes no full one
abbrev pub cells : List Event → Cells
cells [] p = None
cells (Set level cell object id ∷ events) p = either (is_at (level, cell) p) (Some (record { object = object; id = id })) (cells events p)
cells (Get level cell ∷ events) p = cells events p

-- what a step on a cell answers where the cell shows this
abbrev pub shown : Option Held → Reply → Reply
shown None otherwise = otherwise
shown (Some held) otherwise = Was held.object held.id

abbrev pub reply_to : Cells → Event → Reply
reply_to before (Set level cell object id) = shown (before (level, cell)) Kept
reply_to before (Get level cell) = shown (before (level, cell)) Empty

abbrev pub IsInRange : Event → Type 0
IsInRange (Set level cell object id) = (level < 8) × (cell < cells_at level)
IsInRange (Get level cell) = (level < 8) × (cell < cells_at level)

-- no full cell changes
abbrev pub Stays : Cells → Cells → Type 0
Stays before after = (p : Place) (held : Held) → before p ≡ Some held → after p ≡ Some held

abbrev pub met_full : Bool → ℕ → Option ℕ → Option ℕ
met_full true object rest = Some object
met_full false object rest = rest

abbrev pub met : Option Held → HashId → Option ℕ → Option ℕ
met None id rest = None
met (Some held) id rest = met_full (same_id held.id id) held.object rest

-- the object of the first of these cells with that identifier which stands before any empty one
abbrev pub first_with : Cells → HashId → List Place → Option ℕ
first_with now id [] = None
first_with now id (p ∷ rest) = met (now p) id (first_with now id rest)

abbrev pub found : Cells → HashId → Option ℕ
found now id = first_with now id (probes id)

abbrev pub FoundStays : Cells → Cells → Type 0
FoundStays before after = (id : HashId) (object : ℕ) → found before id ≡ Some object → found after id ≡ Some object

-- the cell is full, with another identifier
abbrev pub HoldsOther : Cells → HashId → Place → Type 0
HoldsOther now id p = (held : Held) × (now p ≡ Some held) × (held.id ≢ id)

-- the cell p is among these, and each earlier one holds another identifier
abbrev pub Reaches : Cells → HashId → List Place → Place → Type 0
Reaches now id [] p = ⊥
Reaches now id (q ∷ rest) p = (q ≡ p) ⊎ (HoldsOther now id q × Reaches now id rest p)

abbrev pub IsLawful : List Event → Event → Type 0
IsLawful before (Set level cell object id) = Reaches (cells before) id (probes id) (level, cell)
IsLawful before (Get level cell) = Unit {0}

abbrev pub AreLawful : List Event → List Event → Type 0
AreLawful before [] = Unit {0}
AreLawful before (event ∷ events) = IsLawful before event × AreLawful (before ++ event ∷ []) events
