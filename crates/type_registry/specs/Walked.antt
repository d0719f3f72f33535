-- What the probes of an identifier told, one after another (own).
use Rattle.std.specs.Prelude.{◌≡◌, ◌≢◌, ℕ, suc, ◌≤◌, ◌/◌, ◌%◌, List, [], ◌∷◌, ◌+◌, ◌++◌, Some, slice_get, length}
use Rattle.type_trees.specs.declared.types.HashId.{HashId}
use Rattle.cell_core.specs.Probes.{probe_at, IsProbed}
use Rattle.type_registry.specs.Held.{Held, IsNamed}

-- probe number p told the name and the cells of its level, and the name of its cell and what that holds: an object under
-- its identifier, of which the cell is a probed cell
abbrev pub IsStep : (List ℕ → List ℕ) → List ℕ → HashId → ℕ → ℕ × List ℕ → ℕ × Held → Type 0
IsStep name registry id p level cell =
    (slice_get registry (p / 8) ≡ Some level.0) × (slice_get level.1 (probe_at id.hash (p / 8) (p % 8)) ≡ Some cell.0)
    × IsNamed name cell.1 × IsProbed cell.1.id (p / 8) (probe_at id.hash (p / 8) (p % 8))

-- the probes from number p on told this
abbrev pub Walked : (List ℕ → List ℕ) → List ℕ → HashId → ℕ → List (ℕ × List ℕ) → List (ℕ × Held) → Type 0
Walked name registry id p [] [] = Unit {0}
Walked name registry id p [] (c ∷ cells) = ⊥
Walked name registry id p (l ∷ levels) [] = ⊥
Walked name registry id p (l ∷ levels) (c ∷ cells) = IsStep name registry id p l c × Walked name registry id (suc p) levels cells

-- all these cells hold other identifiers
abbrev pub Strangers : HashId → List (ℕ × Held) → Type 0
Strangers id [] = Unit {0}
Strangers id (c ∷ cells) = (c.1.id ≢ id) × Strangers id cells

-- one probe, with what it told of its level and of its cell, which holds h
abbrev pub IsMet : (List ℕ → List ℕ) → List ℕ → HashId → ℕ → Held → List (ℕ × List ℕ) → List (ℕ × Held) → Type 0
IsMet name registry id p h levels cells = (l : ℕ × List ℕ) × (n : ℕ) × (levels ≡ l ∷ []) × (cells ≡ (n, h) ∷ []) × IsStep name registry id p l (n, h)

-- the probes of an identifier in a registry, so many so far
pub record Walk : Type 0 where
  pub registry : List ℕ
  pub id : HashId
  pub count : ℕ
  pub levels : List (ℕ × List ℕ)
  pub cells : List (ℕ × Held)

pub record IsPath (name : List ℕ → List ℕ) (w : Walk) : Type 0 where
  pub counted : w.count ≡ length w.cells
  pub few : w.count ≤ 64
  pub walked : Walked name w.registry w.id 0 w.levels w.cells
  pub strange : Strangers w.id w.cells

-- the next probe of these met a full cell that holds h
abbrev pub MetNext : (List ℕ → List ℕ) → Walk → Held → List (ℕ × List ℕ) → List (ℕ × Held) → Type 0
MetNext name w h levels cells = IsMet name w.registry w.id w.count h levels cells

-- with one more probe
abbrev pub walk_past : Walk → List (ℕ × List ℕ) → List (ℕ × Held) → Walk
walk_past w levels cells = record { registry = w.registry; id = w.id; count = w.count + 1; levels = w.levels ++ levels; cells = w.cells ++ cells }
