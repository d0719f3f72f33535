-- The types that samples have at the top (this profile's own).
use Rattle.std.specs.Prelude.{Bool, true, false}
use Rattle.xt_shapes.specs.Shape.{Shape, structure, union}

-- a structure or a union
abbrev pub is_top : Shape → Bool
is_top (structure ext ms) = true
is_top (union ext key disc cs) = true
is_top _ = false
