-- Tests of lists that std's iterators give.
use Rattle.std.proofs.Common.{◌≡◌, refl, ap, Bool, ◌||◌, ◌&&◌, not, true, false, ◌∙◌, List, [], ◌∷◌, ℕ, suc, ◌<◌, nat_lt, get_or, Fits, w8, arith}
use Rattle.std.proofs.lemmas.Bool.{lt-ltb}
use Rattle.std.specs.List.{list_all}
use Rattle.xt_shapes.specs.Lists.{has, all}

pub list_all_not : {A : Type 0} (p : A → Bool) (xs : List A) → list_all (λ x. not (p x)) xs ≡ not (has p xs)
list_all_not p [] = refl
list_all_not p (x ∷ xs) = ap (λ b. not (p x) && b) (list_all_not p xs) ∙ both_not (p x) (has p xs)
  where
    both_not : (a b : Bool) → (not a && not b) ≡ not (a || b)
    both_not true b = refl
    both_not false b = refl

-- the items of a slice of octets are octets
pub octets_are : (xs : List ℕ) → ((i : ℕ) → Fits w8 (get_or xs i 0)) → all (λ b. nat_lt b 256) xs ≡ true
octets_are [] fits = refl
octets_are (x ∷ xs) fits =
    let h : x < 256 = omega (arith, fits 0) in
    rw (lt-ltb x 256 h, octets_are xs (λ i. fits (suc i))) refl
