-- Counts of a collection's parts, given by the type or read (DDS-XTypes 1.3, 7.4).
use Rattle.std.specs.Prelude.{ℕ, Option, Some, None, Ok}
use Rattle.xt_shapes.specs.declared.leaves.Order.{Order}
use Rattle.xcdr_model.specs.Reading.{Spot, Reading, number_at}

-- a count that is given, or read
abbrev pub counted : Option ℕ → Order → Spot → Reading ℕ
counted None o s = number_at 4 o 4 s
counted (Some n) o s = Ok (n, s)
