-- Bits at or above a bit bound.
use Rattle.std.proofs.Common.{◌≡◌, ℕ, ◌/◌, ◌^◌, ◌<◌, ◌≤◌, false, arith, rules, tests, nat_le, nat_eq, not}
use Rattle.std.proofs.lemmas.Bool.{lt-leb}
use Rattle.std.proofs.Math.Nat.{pow-le-pow_right, div-eq_of_lt, lt-div-mul-add, one-le-pow}

pub past_wide : (bits n : ℕ) → 64 ≤ bits → n < 18446744073709551616 → nat_le (2 ^ bits) n ≡ false
past_wide bits n h low = lt-leb _ _ (omega (arith, low, pow-le-pow_right {n = 2} (omega arith) {i = 64} {j = bits} h))

pub past_narrow : (bits n : ℕ) → not (nat_eq (n / 2 ^ bits) 0) ≡ nat_le (2 ^ bits) n
past_narrow bits n = search (rules, tests, div-eq_of_lt, lt-div-mul-add, one-le-pow)

pub ruleset mask_rules = (past_wide, past_narrow)
