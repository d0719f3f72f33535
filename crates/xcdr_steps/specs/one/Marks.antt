-- The headers of parameters, told their places, as they are read: four octets, and eight more of the extended form (DDS-XTypes 1.3, 7.4.1.2).
use Rattle.std.specs.Prelude.{ℕ, ◌+◌, ◌-◌, ◌/◌, ◌%◌, ◌^◌, true, List, ◌++◌, cond, Ok, length, take, drop, nat_lt, ◌==◌}
use Rattle.xt_shapes.specs.declared.leaves.Order.{Order}
use Rattle.xcdr_model.specs.declared.malformed.Why.TheVariants.{Short, Parameter}
use Rattle.xcdr_model.specs.Numbers.{number, padding}
use Rattle.xcdr_model.specs.Reading.{Spot, Reading, fault_at, ◌>>=◌, octets_at}
use Rattle.xcdr_model.specs.Xcdr1Reading.{Mark, block_at, mark_at, first_octets, short_mark, long_mark}
use Rattle.xt_wire.specs.cursor.Standing.{Standing}
use Rattle.xcdr_steps.specs.declared.one.marks.Mark as program
use Rattle.xcdr_steps.specs.declared.one.marks.Marked.{Marked}
use Rattle.xcdr_steps.specs.declared.one.marks.Opening.{Opening}

abbrev pub mark_view : program.Mark → Mark
mark_view m = record { extended = m.extended; id = m.id; must = m.must; length = m.length }

abbrev pub marked_view : Standing → Marked → ℕ × Mark
marked_view a m = (m.at - a.origin, mark_view m.mark)

abbrev pub opening_view : Standing → Opening → ℕ × List ℕ
opening_view a x = (x.at - a.origin, x.octets)

-- the first four octets, and their aligned place
abbrev pub opening_at : Order → Spot → Reading (ℕ × List ℕ)
opening_at o s = block_at 4 s >>= λ h. Ok ((s.at + padding 4 s.at, h.0), h.1)

-- the eight octets more of the extended form, whose own length is 8
abbrev pub long_at : ℕ × List ℕ → Order → Spot → Reading Mark
long_at v o s = cond (nat_lt (length s.rest) 8) (fault_at v.0 Short)
    (octets_at 8 s >>= λ x. cond (number o (take 2 (drop 2 v.1)) == 8) (Ok (long_mark o (v.1 ++ x.0), x.1)) (fault_at v.0 Parameter))

-- a header whose first four octets were read
abbrev pub behind_opening : ℕ × List ℕ → Order → Spot → Reading Mark
behind_opening v o s = cond (first_octets o v.1 % 2 ^ 14 == 0x3F01) (long_at v o s) (Ok (short_mark o v.1, s))

-- what the last eight octets of the extended form say
abbrev pub told_long : Order → List ℕ → Mark
told_long o x = let n = number o (take 4 x) in record { extended = true; id = n % 2 ^ 28; must = n / 2 ^ 30 % 2 == 1; length = number o (take 4 (drop 4 x)) }

abbrev pub placed_mark : ℕ → Mark × Spot → Reading (ℕ × Mark)
placed_mark p m = Ok ((p, m.0), m.1)

-- a header, and its aligned place
abbrev pub marked_at : Order → Spot → Reading (ℕ × Mark)
marked_at o s = mark_at o s >>= placed_mark (s.at + padding 4 s.at)
