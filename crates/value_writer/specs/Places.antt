-- Where octets end that are written from a place on (this profile's own). Sizes stop counting at a place that is past the end of every sample,
-- and of all whose octets a count of 32 bits can count.
use Rattle.std.specs.Prelude.{ℕ, ◌+◌, ◌*◌, ◌==◌, cond, min, length}
use Rattle.xcdr_model.specs.FixedSpelling.{Fixed}
use Rattle.xcdr_model.specs.Numbers.{padding}

unfoldable pub end_of : Fixed → ℕ → ℕ
end_of f p = min 4294967296 (p + length (f p))

-- of a number of k octets, aligned to its size and at most to m
abbrev pub number_end : ℕ → ℕ → ℕ → ℕ
number_end m k p = min 4294967296 (p + (padding (min k m) p + k))

-- of n such numbers
abbrev pub run_end : ℕ → ℕ → ℕ → ℕ → ℕ
run_end m k n p = cond (n == 0) (min 4294967296 p) (min 4294967296 (p + (padding (min k m) p + k * n)))
