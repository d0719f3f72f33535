-- The sizes of numbers, which are what they are aligned to too (DDS-XTypes 1.3, 7.4).
use Rattle.std.specs.Prelude.{◌≡◌, ℕ, ◌⊎◌}

abbrev pub IsUnit : ℕ → Type 0
IsUnit n = (n ≡ 1) ⊎ ((n ≡ 2) ⊎ ((n ≡ 4) ⊎ (n ≡ 8)))

-- 0 for every type whose values are no numbers
abbrev pub IsSize : ℕ → Type 0
IsSize n = (n ≡ 0) ⊎ IsUnit n
