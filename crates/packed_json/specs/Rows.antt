-- The table of octets in print (this profile's own).
use Rattle.std.specs.Prelude.{ℕ, zero, suc, ◌+◌, ◌/◌, ◌%◌, cond, nat_lt, List, [], ◌∷◌, ◌++◌}

-- a comma and the digits of an octet, and as many spaces as make four octets
abbrev pub row : ℕ → List ℕ
row n =
    cond (nat_lt n 10) (44 ∷ (48 + n % 10) ∷ 32 ∷ 32 ∷ [])
    (cond (nat_lt n 100) (44 ∷ (48 + n / 10 % 10) ∷ (48 + n % 10) ∷ 32 ∷ []) (44 ∷ (48 + n / 100) ∷ (48 + n / 10 % 10) ∷ (48 + n % 10) ∷ []))

-- how many octets of its row are the comma and the digits
abbrev pub width : ℕ → ℕ
width n = cond (nat_lt n 10) 2 (cond (nat_lt n 100) 3 4)

-- so many rows, from that of k on
abbrev pub rows_from : ℕ → ℕ → List ℕ
rows_from k zero = []
rows_from k (suc m) = row k ++ rows_from (suc k) m
