-- Numbers with sign.
use Rattle.std.proofs.Common.{◌≡◌, refl, ℕ, ◌+◌, ◌-◌, ◌/◌, ◌^◌, ◌<◌, ◌≤◌, pos, negsuc, true, false, nat_lt, inl, inr, arith, ap, ◌∙◌}
use Rattle.std.proofs.lemmas.Bool.{le-ltb, lt-ltb}
use Rattle.xt_wire.specs.numbers.Units.{IsUnit}
use Rattle.xcdr_model.specs.Numbers.{with_sign}
use Rattle.xt_shapes.specs.Sizes.{half}

pub halves : (k g : ℕ) → IsUnit k → g + 1 ≡ 256 ^ k → half k ≡ g / 2 + 1
halves k g is e = elim is [
  | inl x ↦ (let p : g + 1 ≡ 256 = e ∙ ap (λ (n : ℕ). 256 ^ n) x in rw x (omega arith))
  | inr more ↦ elim more [
    | inl x ↦ (let p : g + 1 ≡ 65536 = e ∙ ap (λ (n : ℕ). 256 ^ n) x in rw x (omega arith))
    | inr more2 ↦ elim more2 [
      | inl x ↦ (let p : g + 1 ≡ 4294967296 = e ∙ ap (λ (n : ℕ). 256 ^ n) x in rw x (omega arith))
      | inr x ↦ (let p : g + 1 ≡ 18446744073709551616 = e ∙ ap (λ (n : ℕ). 256 ^ n) x in rw x (omega arith))
    ]
  ]
]

pub sign_none : (k n : ℕ) → with_sign k false n ≡ pos n
unfolding with_sign
sign_none k n = refl

pub sign_low : (k n g : ℕ) → IsUnit k → g + 1 ≡ 256 ^ k → n ≤ g / 2 → with_sign k true n ≡ pos n
unfolding with_sign
sign_low k n g is e le = let low : nat_lt n (half k) ≡ true = lt-ltb _ _ (omega (arith, halves k g is e)) in rw low refl

pub sign_high : (k n g : ℕ) → IsUnit k → g + 1 ≡ 256 ^ k → g / 2 < n → with_sign k true n ≡ negsuc (g - n)
unfolding with_sign
sign_high k n g is e lt = let high : nat_lt n (half k) ≡ false = le-ltb _ _ (omega (arith, halves k g is e)) in rw high (ap (λ (m : ℕ). negsuc m) (omega arith))

pub ruleset sign_rules = (sign_none, sign_low, sign_high)
