-- A finding, as callers see it (own).
use Rattle.std.specs.Prelude.{◌≡◌, ◌≢◌, ℕ, ◌<◌, ◌/◌, ◌%◌, List, [], ◌∷◌, ◌++◌, length, Some, slice_get, map}
use Rattle.type_trees.specs.declared.types.HashId.{HashId}
use Rattle.cell_core.specs.Probes.{Place, place, probe_at, IsProbed}
use Rattle.type_registry.specs.Held.{Held, held, IsNamed}
use Rattle.type_registry.specs.Walked.{Walk}

-- A registry is seen as the names of its levels' cells. The trail is what the earlier probed cells hold, in order; so its length is
-- the number of the probed cell that holds the identifier.
pub record Found : Type 0 where
  pub registry : List ℕ
  pub id : HashId
  pub octets : List ℕ
  pub trail : List Held

abbrev pub held_of : ℕ × Held → Held
held_of c = c.1

-- what a walk and the cell where it ended are as a finding
abbrev pub found_of : Walk → Held → Found
found_of w h = record { registry = w.registry; id = w.id; octets = h.octets; trail = map held_of w.cells }

-- what its probed cells hold, up to its own
abbrev pub shown_by : Found → List Held
shown_by f = f.trail ++ held f.id f.octets ∷ []

-- the finding says that the cell at that place holds h
abbrev pub Mentions : Found → Place → Held → Type 0
Mentions f p h = (i : ℕ) × (slice_get (shown_by f) i ≡ Some h) × (place f.id i ≡ p)

-- what both say of one cell is the same
abbrev pub Consistent : Found → Found → Type 0
Consistent a b = (p : Place) (x y : Held) → Mentions a p x → Mentions b p y → x ≡ y

-- what probed cell number i shows: an object under its identifier, of which the cell is a probed cell
abbrev pub IsShown : (List ℕ → List ℕ) → HashId → ℕ → Held → Type 0
IsShown name id i h = IsNamed name h × IsProbed h.id (i / 8) (probe_at id.hash (i / 8) (i % 8))

pub record IsFinding (name : List ℕ → List ℕ) (f : Found) : Type 0 where
  -- its own cell is a probed cell of its identifier
  pub within : length f.trail < 64
  -- what its cells hold
  pub shown : (i : ℕ) (h : Held) → slice_get (shown_by f) i ≡ Some h → IsShown name f.id i h
  -- each earlier probed cell is full, with another identifier
  pub strangers : (i : ℕ) (h : Held) → slice_get f.trail i ≡ Some h → h.id ≢ f.id
