-- Tests of what stops at a limit above them.
use Rattle.std.proofs.Common.{◌≡◌, ℕ, nat_le, min, arith, tests}

pub within_test : (n : ℕ) → nat_le (min 65537 n) 65536 ≡ nat_le n 65536
within_test n = grind (arith, tests)

pub light_test : (n : ℕ) → nat_le (min 65537 n) 128 ≡ nat_le n 128
light_test n = grind (arith, tests)
