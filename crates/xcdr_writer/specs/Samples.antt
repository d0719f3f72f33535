-- The size that is told of a sample (the limit is this profile's own).
use Rattle.std.specs.Prelude.{ℕ, Option, Some, None, cond, nat_le}

abbrev pub sized : ℕ → Option ℕ
sized n = cond (nat_le n 1048576) (Some n) None
