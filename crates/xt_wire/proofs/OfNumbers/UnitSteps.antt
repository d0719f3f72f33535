-- Sizes of numbers.
use Rattle.std.proofs.Common.{◌≡◌, ◌≢◌, ℕ, ◌≤◌, arith, inl, inr}
use Rattle.xt_wire.specs.numbers.Units.{IsUnit}

pub unit_small : (u : ℕ) → IsUnit u → u ≤ 8
unit_small u is = elim is [ inl e ↦ omega (arith, e) | inr more ↦ elim more [ inl e ↦ omega (arith, e) | inr more2 ↦ elim more2 [ inl e ↦ omega (arith, e) | inr e ↦ omega (arith, e) ] ] ]

pub unit_last : (u : ℕ) → IsUnit u → u ≢ 1 → u ≢ 2 → u ≢ 4 → u ≡ 8
unit_last u is one two four = elim is [ inl e ↦ absurd (one e) | inr more ↦ elim more [ inl e ↦ absurd (two e) | inr more2 ↦ elim more2 [ inl e ↦ absurd (four e) | inr e ↦ e ] ] ]
