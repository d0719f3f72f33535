-- Members by index, as the program looks for them by id (this profile's own).
use Rattle.std.specs.Prelude.{◌≡◌, ◌≢◌, ℕ, ◌<◌, ◌≤◌, false, List, Option, Some, None, length, slice_get}
use Rattle.type_trees.specs.declared.types.Member.{Member}
use Rattle.type_trees.specs.Bridge.{members_shape}
use Rattle.xt_shapes.specs.Select.{has_member}

-- the member with that index has that id
abbrev pub IsAt : List Member → ℕ → ℕ → Type 0
IsAt ms id i = (i < length ms) × ((m : Member) → slice_get ms i ≡ Some m → m.id ≡ id)

-- no member from the one index to the other has that id
abbrev pub LacksBetween : List Member → ℕ → ℕ → ℕ → Type 0
LacksBetween ms id low high = (i : ℕ) → low ≤ i → i < high → (m : Member) → slice_get ms i ≡ Some m → m.id ≢ id

-- the index of a member with that id, and none where no member has it
abbrev pub IsFound : List Member → ℕ → Option ℕ → Type 0
IsFound ms id None = has_member (members_shape ms) id ≡ false
IsFound ms id (Some i) = IsAt ms id i
