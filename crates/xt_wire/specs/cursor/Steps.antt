-- The readings of a cursor's own calls (this profile's own).
use Rattle.std.specs.Prelude.{ℕ, ◌+◌, min, length, cond, nat_lt, Result, Ok, Err}
use Rattle.xt_shapes.specs.declared.leaves.Order.{Order}
use Rattle.xt_wire.specs.declared.cursor.cursor.CutFault.{CutFault}
use Rattle.xcdr_model.specs.declared.malformed.Why.TheVariants.{Short}
use Rattle.xt_wire.specs.declared.cursor.faults.DecodeFault.{DecodeFault}
use Rattle.xt_wire.specs.cursor.Cuts.{cut_fault}
use Rattle.xcdr_model.specs.Numbers.{padding, number}
use Rattle.xcdr_model.specs.Reading.{Spot, Reading, ◌>>=◌, fault_at, step, octets_at, number_at}

-- n octets on, where there are as many
abbrev pub going : {A : Type 0} → ℕ → ℕ → A → Spot → Reading A
going n at x s = cond (nat_lt (length s.rest) n) (fault_at at Short) (Ok (x, step n s))

-- octets up to the next place that is a multiple of m
abbrev pub align_at : ℕ → Order → Spot → Reading (Unit {0})
align_at m o s = going (padding m s.at) (s.at + length s.rest) tt s

-- octets that are passed over
abbrev pub pass_at : ℕ → Order → Spot → Reading (Unit {0})
pass_at n o s = going n s.at tt s

abbrev pub cut_result : {T : Type 0} → Result T CutFault → Result T DecodeFault
cut_result (Ok t) = Ok t
cut_result (Err f) = Err (cut_fault f)

-- a number of k octets at this place
unfoldable pub digits_at : ℕ → Order → Spot → Reading ℕ
digits_at k o s = octets_at k s >>= λ y. Ok (number o y.0, y.1)

-- a number, and its aligned place
unfoldable pub placed_at : ℕ → ℕ → Order → Spot → Reading (ℕ × ℕ)
placed_at most k o s = number_at most o k s >>= λ n. Ok ((s.at + padding (min k most) s.at, n.0), n.1)
