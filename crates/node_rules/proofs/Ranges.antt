-- The numbers that so many octets hold, as a range.
use Rattle.std.proofs.Common.{◌≡◌, ℕ, ℤ, pos, negsuc, ◌^◌, false, ◌&&◌, int_le, int_lt, rules, tests}
use Rattle.xt_shapes.specs.Typing.{in_range, is_below}

pub below_range : (limit : ℕ) (i : ℤ) → is_below limit i ≡ (int_le (pos 0) i && int_lt i (pos limit))
below_range limit (pos n) = search (rules, tests)
below_range limit (negsuc n) = search (rules, tests)

pub unsigned_range : (k : ℕ) (i : ℤ) → in_range k false i ≡ (int_le (pos 0) i && int_lt i (pos (256 ^ k)))
unsigned_range k (pos n) = search (rules, tests)
unsigned_range k (negsuc n) = search (rules, tests)

pub ruleset range_rules = (below_range, unsigned_range)
