-- A number with its place, which the cursor counts from the first octet of all (this profile's own).
use Rattle.std.specs.Prelude.{ℕ, ◌-◌}
use Rattle.xt_wire.specs.cursor.Standing.{Standing}
use Rattle.xt_wire.specs.declared.cursor.reading.Placed.{Placed}

abbrev pub placed_view : Standing → Placed → ℕ × ℕ
placed_view a p = (p.at - a.origin, p.number)
