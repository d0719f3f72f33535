-- One turn of a loop of the grammar, where the code counts turns up.
use Rattle.std.proofs.Common.{◌≡◌, ℕ, suc, ◌+◌, ◌-◌, ◌<◌, ◌≤◌, ap, arith}

pub turn : {X : Type 0} (f : ℕ → X) (n at : ℕ) → at < n → f (n - at) ≡ f (suc (n - (at + 1)))
turn f n at below = let e : n - at ≡ suc (n - (at + 1)) = omega arith in ap f e

pub last : {X : Type 0} (f : ℕ → X) (n at : ℕ) → n ≤ at → f (n - at) ≡ f 0
last f n at done = let e : n - at ≡ 0 = omega arith in ap f e
