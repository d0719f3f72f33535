-- What cells hold, and what a read of one tells (this profile's own).
use Rattle.std.specs.Prelude.{◌≡◌, ℕ, List, [], ◌∷◌, Some, slice_get}
use Rattle.type_trees.specs.declared.types.HashId.{HashId}
use Rattle.type_object.specs.Names.{named_by}
use Rattle.type_object.specs.Pools.{IsObject}

-- an identifier, and the text of its object
pub record Held : Type 0 where
  pub id : HashId
  pub octets : List ℕ

abbrev pub held : HashId → List ℕ → Held
held id octets = record { id = id; octets = octets }

-- the text is an object's, and stands under its identifier
abbrev pub IsNamed : (List ℕ → List ℕ) → Held → Type 0
IsNamed name h = IsObject h.octets × (h.id ≡ named_by name h.octets)

-- cell number i of these showed x, and that is what was learned
abbrev pub Reads : {X : Type 0} → List ℕ → ℕ → X → List (ℕ × X) → Type 0
Reads {X} names i x facts = (name : ℕ) × (slice_get names i ≡ Some name) × (facts ≡ (name, x) ∷ [])
