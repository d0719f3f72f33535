-- What digits make of a number.
use Rattle.std.proofs.Common.{◌≡◌, refl, ℕ, ◌≤◌, ◌<◌, ◌+◌, ◌-◌, ◌*◌, Bool, true, false, List, [], ◌∷◌, nat_lt, arith, tests}
use Rattle.std.specs.Prelude.{Option, Some, None, if◌then◌else◌}
use Rattle.tool_words.specs.Words.{is_digit, valued}

-- a number that is too large stays so
pub valued_past : (most n : ℕ) (digits : List ℕ) → most ≤ n → valued most n digits ≡ None
valued_past most n [] le = by (nat_lt n most) refl
  where
    by : (b : Bool) → nat_lt n most ≡ b → (if b then Some n else None) ≡ None
    by true e = absurd (omega (arith, tests, le, e))
    by false e = refl
valued_past most n (o ∷ os) le = elim (is_digit o) as (λ b. (if b then valued most (10 * n + (o - 48)) os else None) ≡ None) [ true ↦ valued_past most (10 * n + (o - 48)) os (omega (arith, le)) | false ↦ refl ]
