-- Numbers below a power of two.
use Rattle.std.proofs.Common.{◌≡◌, ℕ, ℤ, pos, negsuc, ◌<◌, ◌≤◌, ◌^◌, ◌/◌, true, false, arith, int_lt, nat_lt, nat_eq, rules, tests}
use Rattle.std.proofs.Math.Nat.{pow-le-pow_right, div-eq_of_lt, lt-div-mul-add, one-le-pow}
use Rattle.std.specs.Prelude.{nat_abs}
use Rattle.xt_shapes.specs.Typing.{is_below}

pub wide : (bits n : ℕ) → 127 ≤ bits → n < 2 ^ 127 → n < 2 ^ bits
wide bits n h low = omega (arith, low, pow-le-pow_right {n = 2} (omega arith) {i = 127} {j = bits} h)

pub shifted : (bits n : ℕ) → nat_eq (n / 2 ^ bits) 0 ≡ nat_lt n (2 ^ bits)
shifted bits n = search (rules, tests, div-eq_of_lt, lt-div-mul-add, one-le-pow)

pub below_magnitude : (bits : ℕ) (z : ℤ) → int_lt z (pos 0) ≡ false → is_below (2 ^ bits) z ≡ nat_lt (nat_abs z) (2 ^ bits)
below_magnitude bits (pos n) h = search (rules, tests)
below_magnitude bits (negsuc n) h = search rules

pub wide_test : (bits n : ℕ) → 127 ≤ bits → n < 2 ^ 127 → nat_lt n (2 ^ bits) ≡ true
wide_test bits n h low = search (rules, tests, wide bits n h low)
