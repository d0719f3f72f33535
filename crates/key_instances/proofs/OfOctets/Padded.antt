-- Octets with zeros behind them.
use Rattle.std.proofs.Common.{◌≡◌, ℕ, ◌+◌, ◌-◌, ◌≤◌, min, List, ◌++◌, length, take, drop, replicate, sym, ap, ◌∙◌, inl, inr, append-nil, arith}
use Rattle.std.proofs.lemmas.Bool.{cases_lt}
use Rattle.std.proofs.lemmas.List.{take-append-le, take_all, take-replicate, drop-replicate}
use Rattle.std.proofs.Math.Seq.{take-append-add}

abbrev zeros : List ℕ
zeros = replicate 16 0

-- so many are left
left : (n : ℕ) → n ≤ 16 → drop (16 - n) zeros ≡ take n zeros
left n le = drop-replicate (16 - n) 16 0 ∙ ap (λ k. replicate k 0) (let same : 16 - (16 - n) ≡ n = omega (arith, le) in same) ∙ sym (take-replicate n 16 0 le)

short : (xs : List ℕ) (n : ℕ) → length xs + n ≡ 16 → xs ++ drop (length xs) zeros ≡ take 16 (xs ++ zeros)
short xs n e =
    let none : length xs ≡ 16 - n = omega (arith, e) in
    let few : n ≤ 16 = omega (arith, e) in
    ap (λ k. xs ++ drop k zeros) none ∙ ap (λ l. xs ++ l) (left n few) ∙ sym (take-append-add xs zeros n) ∙ ap (λ k. take k (xs ++ zeros)) e

pub padded_is : (xs : List ℕ) (n : ℕ) → n ≡ min (length xs) 16 → take n xs ++ drop n zeros ≡ take 16 (xs ++ zeros)
padded_is xs n e = elim (cases_lt (length xs) 17) [
  | inl few ↦ (let all : n ≡ length xs = omega (arith, e, few) in
      let rest : length xs + (16 - length xs) ≡ 16 = omega (arith, few) in
      ap (λ k. take k xs ++ drop k zeros) all ∙ ap (λ l. l ++ drop (length xs) zeros) (take_all (length xs) xs (omega arith)) ∙ short xs (16 - length xs) rest)
  | inr many ↦ (let some : n ≡ 16 = omega (arith, e, many) in
      ap (λ k. take k xs ++ drop k zeros) some ∙ append-nil (take 16 xs) ∙ sym (take-append-le 16 xs zeros (omega (arith, many))))
]
