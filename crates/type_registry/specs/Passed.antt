-- A pass, as callers see it: what a thread knows of a registry (own).
use Rattle.std.specs.Prelude.{◌≡◌, ◌≢◌, ℕ, List, length, Option, Some, slice_get, map, All}
use Rattle.std.specs.Borrow.{Bor}
use Rattle.std.specs.Map.{lookup}
use Rattle.std.specs.Option.{option_map}
use Rattle.type_trees.specs.declared.types.HashId.{HashId}
use Rattle.type_trees.specs.Ids.{same_id}
use Rattle.type_registry.specs.Held.{Held}
use Rattle.type_registry.specs.Walked.{Walk}
use Rattle.type_registry.specs.Found.{Found, held_of, IsShown, IsFinding}

-- what the probed cells of an identifier hold, where all are full with other ones
pub record Occupied : Type 0 where
  pub registry : List ℕ
  pub id : HashId
  pub held : List Held

abbrev pub occupied_of : Walk → Occupied
occupied_of w = record { registry = w.registry; id = w.id; held = map held_of w.cells }

abbrev pub now_of : Bor Held → Held
now_of r = r.now

pub record PassView : Type 0 where
  pub registry : List ℕ
  pub found : List (HashId × Found)
  pub full : List (HashId × Occupied)

-- the octets that the pass knows under an identifier
abbrev pub known : PassView → HashId → Option (List ℕ)
known p id = option_map (λ (f : Found). f.octets) (lookup (same_id id) p.found)

-- the trail of strangers that the pass has for an identifier
abbrev pub fulls : PassView → HashId → Option (List Held)
fulls p id = option_map (λ (o : Occupied). o.held) (lookup (same_id id) p.full)

abbrev pub Keeps : {X : Type 0} → (HashId → Option X) → (HashId → Option X) → Type 0
Keeps {X} old new = (id : HashId) (x : X) → old id ≡ Some x → new id ≡ Some x

-- all that was known is known still
pub record Grows (old new : PassView) : Type 0 where
  pub registry : new.registry ≡ old.registry
  pub known : Keeps (known old) (known new)
  pub fulls : Keeps (fulls old) (fulls new)

-- 64 cells are full, each with another identifier
pub record IsFull (name : List ℕ → List ℕ) (o : Occupied) : Type 0 where
  pub whole : length o.held ≡ 64
  pub shown : (i : ℕ) (h : Held) → slice_get o.held i ≡ Some h → IsShown name o.id i h
  pub strangers : (i : ℕ) (h : Held) → slice_get o.held i ≡ Some h → h.id ≢ o.id

-- a true finding of that identifier in that registry
pub record IsFindingOf (name : List ℕ → List ℕ) (registry : List ℕ) (e : HashId × Found) : Type 0 where
  pub registry_is : e.1.registry ≡ registry
  pub id_is : e.1.id ≡ e.0
  pub is_finding : IsFinding name e.1

pub record IsFullOf (name : List ℕ → List ℕ) (registry : List ℕ) (e : HashId × Occupied) : Type 0 where
  pub registry_is : e.1.registry ≡ registry
  pub id_is : e.1.id ≡ e.0
  pub is_full : IsFull name e.1

-- what a pass has is true of its registry
pub record IsPass (name : List ℕ → List ℕ) (p : PassView) : Type 0 where
  pub findings : All (IsFindingOf name p.registry) p.found
  pub trails : All (IsFullOf name p.registry) p.full

-- the pass knows these octets under that identifier, all that it knew, and nothing else that is new
pub record Learns (old new : PassView) (id : HashId) (octets : List ℕ) : Type 0 where
  pub known_now : known new id ≡ Some octets
  pub others : (j : HashId) → j ≢ id → known new j ≡ known old j
  pub grows : Grows old new
  pub same_fulls : new.full ≡ old.full

-- the pass has this trail for that identifier, and all else as before
pub record LearnsFull (old new : PassView) (id : HashId) (held : List Held) : Type 0 where
  pub full_now : fulls new id ≡ Some held
  pub others : (j : HashId) → j ≢ id → fulls new j ≡ fulls old j
  pub grows : Grows old new
  pub same_found : new.found ≡ old.found
