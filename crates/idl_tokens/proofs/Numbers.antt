-- A number that is capped as its digits come.
use Rattle.std.proofs.Common.{◌≡◌, ℕ, ◌*◌, ◌+◌, ◌≤◌, ◌<◌, refl, arith, min, ◌⊎◌, inl, inr}
use Rattle.std.proofs.Math.Nat.{le-mul_of_pos_right, mul_comm}
use Rattle.std.proofs.lemmas.Bool.{cases_lt}

capped_at : (base n d : ℕ) → 1 ≤ base → (1099511627776 < n) ⊎ (n ≤ 1099511627776) → min (base * min n 1099511627776 + d) 1099511627776 ≡ min (base * n + d) 1099511627776
capped_at base n d some (inl large) =
    let at_cap : min n 1099511627776 ≡ 1099511627776 = omega arith in
    let more : n ≤ n * base = le-mul_of_pos_right n some in
    let e : n * base ≡ base * n = mul_comm n base in
    rw at_cap (omega arith)
capped_at base n d some (inr small) =
    let below : min n 1099511627776 ≡ n = omega arith in
    rw below refl

pub capped : (base n d : ℕ) → 1 ≤ base → min (base * min n 1099511627776 + d) 1099511627776 ≡ min (base * n + d) 1099511627776
capped base n d some = capped_at base n d some (cases_lt 1099511627776 n)
