-- Sums and products that stop at a limit.
use Rattle.std.proofs.Common.{◌≡◌, ℕ, ◌+◌, ◌*◌, ◌^◌, ◌≤◌, ◌<◌, min, zero, suc, arith, ⊎_elim, ◌∙◌, ap}
use Rattle.std.proofs.Math.Nat.{mul_comm, min-eq_left, min-eq_right}
use Rattle.std.proofs.lemmas.Bool.{cases_lt}
use Rattle.std.proofs.lemmas.Nat.{rows, mul-le}

past : (limit a b : ℕ) → limit ≤ a → min limit (limit * b) ≡ min limit (a * b)
past limit a zero h = omega arith
past limit a (suc b) h =
    let one : limit ≤ limit * suc b = grind (arith, rows) in
    let other : limit * suc b ≤ a * suc b = mul-le limit (suc b) a (suc b) h (omega arith) in
    omega (arith, one, other)

pub capped_times : (limit a b : ℕ) → min limit (min limit a * b) ≡ min limit (a * b)
capped_times limit a b =
    ⊎_elim
    (λ below. ap (λ n. min limit (n * b)) (min-eq_right {n = a} {m = limit} (omega (arith, below))))
    (λ above. ap (λ n. min limit (n * b)) (min-eq_left {n = limit} {m = a} above) ∙ past limit a b above)
    (cases_lt a limit)

one_more : (limit m n : ℕ) → min limit m ≡ min limit n → min limit (1 + m) ≡ min limit (1 + n)
one_more limit m n h = omega (arith, h)

-- the same of both factors, and of one more
pub capped_twice : (limit a b : ℕ) → min limit (1 + min limit a * min limit b) ≡ min limit (1 + a * b)
capped_twice limit a b =
    let swapped : min limit (min limit a * min limit b) ≡ min limit (min limit b * a) =
    capped_times limit a (min limit b) ∙ ap (min limit) (mul_comm a (min limit b)) in
    let both : min limit (min limit a * min limit b) ≡ min limit (b * a) = swapped ∙ capped_times limit b a in
    one_more limit _ _ (both ∙ ap (min limit) (mul_comm b a))

pub capped_step : (limit count d rest : ℕ) → min limit (min limit (count * d) * rest) ≡ min limit (count * (d * rest))
capped_step limit count d rest = capped_times limit (count * d) rest ∙ ap (min limit) (grind (arith, rows))

pub product_fits : (a b : ℕ) → a ≤ 65537 → b ≤ 65537 → a * b < 2 ^ 64
product_fits a b small low = omega (arith, mul-le a b 65537 65537 small low)

pub ruleset product_rules = (product_fits, capped_times, capped_twice)
