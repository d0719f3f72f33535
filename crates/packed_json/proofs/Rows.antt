-- What stands in the table of octets in print.
use Rattle.std.proofs.Common.{◌≡◌, refl, sym, ap, ap₂, ◌∙◌, ℕ, zero, suc, ◌+◌, ◌-◌, ◌*◌, ◌/◌, ◌%◌, ◌<◌, ◌≤◌, Bool, true, false, cond, nat_lt, List, [], ◌∷◌, ◌++◌, length, take, drop, decimal, arith}
use Rattle.std.proofs.lemmas.Bool.{ltb-true, ltb-false}
use Rattle.std.proofs.lemmas.List.{take_all, take-append-le, length-take-le}
use Rattle.std.proofs.Math.Seq.{drop-append-add, take-append-add}
use borrow.Rule.Slice.PartMut.{put_mid}
use Rattle.json_values.proofs.Digits.{one_digit, two_digits, three_digits}
use Rattle.packed_json.specs.declared.digits.TheConstants.{ROWS}
use Rattle.packed_json.specs.Rows.{row, width, rows_from}

pub row_long : (n : ℕ) → length (row n) ≡ 4
row_long n = by (nat_lt n 10) (nat_lt n 100)
  where
    by : (a b : Bool) → length (cond a (44 ∷ (48 + n % 10) ∷ 32 ∷ 32 ∷ []) (cond b (44 ∷ (48 + n / 10 % 10) ∷ (48 + n % 10) ∷ 32 ∷ []) (44 ∷ (48 + n / 100) ∷ (48 + n / 10 % 10) ∷ (48 + n % 10) ∷ []))) ≡ 4
    by true b = refl
    by false true = refl
    by false false = refl

pub width_small : (n : ℕ) → width n ≤ 4
width_small n = by (nat_lt n 10) (nat_lt n 100)
  where
    by : (a b : Bool) → cond a 2 (cond b 3 4) ≤ 4
    by true b = omega arith
    by false true = omega arith
    by false false = omega arith

pub row_text : (n : ℕ) → n < 256 → take (width n) (row n) ≡ 44 ∷ decimal n
row_text n small = by (nat_lt n 10) (nat_lt n 100) refl refl
  where
    by : (a b : Bool) → nat_lt n 10 ≡ a → nat_lt n 100 ≡ b
        → take (cond a 2 (cond b 3 4)) (cond a (44 ∷ (48 + n % 10) ∷ 32 ∷ 32 ∷ []) (cond b (44 ∷ (48 + n / 10 % 10) ∷ (48 + n % 10) ∷ 32 ∷ []) (44 ∷ (48 + n / 100) ∷ (48 + n / 10 % 10) ∷ (48 + n % 10) ∷ []))) ≡ 44 ∷ decimal n
    by true b e f = ap (λ ds. 44 ∷ ds) (one_digit n (ltb-true n 10 e))
    by false true e f = ap (λ ds. 44 ∷ ds) (two_digits n (ltb-false n 10 e) (ltb-true n 100 f))
    by false false e f = ap (λ ds. 44 ∷ ds) (three_digits n (ltb-false n 100 f) small)

-- ---- the table

row_in : (k m n : ℕ) → n < m → take 4 (drop (n * 4) (rows_from k m)) ≡ row (k + n)
row_in k zero n h = absurd (omega arith)
row_in k (suc m) zero h =
    let here : k + 0 ≡ k = omega arith in
    take-append-le 4 (row k) (rows_from (suc k) m) (omega (arith, row_long k)) ∙ take_all 4 (row k) (omega (arith, row_long k)) ∙ ap row (sym here)
row_in k (suc m) (suc n) h =
    let behind : suc n * 4 ≡ length (row k) + n * 4 = omega (arith, row_long k) in
    let there : suc k + n ≡ k + suc n = omega arith in
    ap (λ (d : ℕ). take 4 (drop d (row k ++ rows_from (suc k) m))) behind ∙ ap (take 4) (drop-append-add (row k) (rows_from (suc k) m) (n * 4)) ∙ row_in (suc k) m n (omega arith) ∙ ap row there

is_table : ROWS ≡ rows_from 0 256
is_table = refl

pub row_at : (n : ℕ) → n < 256 → take 4 (drop (n * 4) ROWS) ≡ row n
row_at n small =
    let same : 0 + n ≡ n = omega arith in
    ap (λ (l : List ℕ). take 4 (drop (n * 4) l)) is_table ∙ row_in 0 256 n small ∙ ap row same

-- ---- a block

-- some of the first octets stand behind the first n
pub first_added : (n m count : ℕ) (now all octets : List ℕ) → take n all ≡ now → n + m ≤ length all → length octets ≡ m → count ≤ m → take (n + count) (put_mid n ((n + m) - n) all octets) ≡ now ++ take count octets
first_added n m count now all octets is within many some =
    let long : length (take n all) ≡ n = length-take-le n all (omega (arith, within)) in
    ap (λ (k : ℕ). take (k + count) (put_mid n ((n + m) - n) all octets)) (sym long) ∙ take-append-add (take n all) (octets ++ _) count ∙ ap₂ (λ (a b : List ℕ). a ++ b) is (take-append-le count octets _ (omega (arith, many, some)))
