-- Octets that need no escape.
use Rattle.std.proofs.Common.{◌≡◌, refl, ℕ, suc, ◌+◌, ◌<◌, ◌≤◌, List, [], ◌∷◌, length, drop, get_or, arith}
use Rattle.std.proofs.lemmas.Bool.{le-ltb, ne_eqb}
use Rattle.std.proofs.Math.Seq.{drop-cons}
use Rattle.json.specs.Print.{escape, escape_byte}

plain_byte : (x : ℕ) → 32 ≤ x → ¬ (x ≡ 34) → ¬ (x ≡ 92) → escape_byte x ≡ x ∷ []
unfolding escape_byte
plain_byte x big quote slash = rw (ne_eqb x 34 quote, ne_eqb x 92 slash, ne_eqb x 8 (λ z. omega arith), ne_eqb x 12 (λ z. omega arith), ne_eqb x 10 (λ z. omega arith), ne_eqb x 13 (λ z. omega arith), ne_eqb x 9 (λ z. omega arith), le-ltb x 32 big) refl

plain_more : (x : ℕ) (xs : List ℕ) → 32 ≤ x → ¬ (x ≡ 34) → ¬ (x ≡ 92) → escape xs ≡ xs → escape (x ∷ xs) ≡ x ∷ xs
plain_more x xs big quote slash rest = rw (plain_byte x big quote slash, rest) refl

pub plain_next : (s : List ℕ) (i : ℕ) → i < length s → 32 ≤ get_or s i 0 → ¬ (get_or s i 0 ≡ 34) → ¬ (get_or s i 0 ≡ 92) → escape (drop (i + 1) s) ≡ drop (i + 1) s → escape (drop i s) ≡ drop i s
plain_next s i within big quote slash rest =
    let next : i + 1 ≡ suc i = omega arith in
    let cut : drop i s ≡ get_or s i 0 ∷ drop (suc i) s = drop-cons s i 0 within in
    let left : escape (drop (suc i) s) ≡ drop (suc i) s = rw next at rest in
    rw cut (plain_more (get_or s i 0) (drop (suc i) s) big quote slash left)
