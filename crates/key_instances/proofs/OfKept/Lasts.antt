-- The last values, and one more.
use Rattle.std.proofs.Common.{◌≡◌, sym, ap, ◌∙◌, ℕ, ◌+◌, ◌-◌, ◌≤◌, List, [], ◌∷◌, ◌++◌, length, drop, arith}
use Rattle.std.proofs.lemmas.List.{drop-append-le, drop-drop, length-append, length-drop}
use Rattle.key_instances.specs.kept.Kept.{last}

pub last_more : {V : Type 0} (n : ℕ) (vs : List V) (v : V) → last n (last n vs ++ v ∷ []) ≡ last n (vs ++ v ∷ [])
last_more n vs v =
    let a = length vs - n in
    let seam : drop a (vs ++ v ∷ []) ≡ drop a vs ++ v ∷ [] = drop-append-le a vs (v ∷ []) (omega arith) in
    let most : length (drop a vs ++ v ∷ []) ≡ (length vs - a) + 1 = omega (arith, length-append (drop a vs) (v ∷ []), length-drop a vs) in
    let all : length (vs ++ v ∷ []) ≡ length vs + 1 = omega (arith, length-append vs (v ∷ [])) in
    let same : a + (length (drop a vs ++ v ∷ []) - n) ≡ length (vs ++ v ∷ []) - n = omega (arith, most, all) in
    ap (drop (length (drop a vs ++ v ∷ []) - n)) (sym seam) ∙ drop-drop (length (drop a vs ++ v ∷ []) - n) a (vs ++ v ∷ []) ∙ ap (λ k. drop k (vs ++ v ∷ [])) same

pub last_one : {V : Type 0} (n : ℕ) (v : V) → 1 ≤ n → last n (v ∷ []) ≡ v ∷ []
last_one n v e = ap (λ k. drop k (v ∷ [])) (let none : 1 - n ≡ 0 = omega (arith, e) in none)
