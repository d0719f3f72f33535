-- The members of a structure by index (this profile's own).
use Rattle.std.specs.Prelude.{ℕ, suc, cond, ◌==◌, Option, Some, None}
use Rattle.std.specs.Option.{option_map}
use Rattle.xt_shapes.specs.Shape.{Members, no_members, member}

-- the index of the first member with that id
abbrev pub index_of : Members → ℕ → Option ℕ
index_of no_members id = None
index_of (member h t ms) id = cond (h.id == id) (Some 0) (option_map (λ i. suc i) (index_of ms id))
