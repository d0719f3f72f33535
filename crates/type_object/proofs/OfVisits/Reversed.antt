-- Lists in reverse.
use Rattle.std.proofs.Common.{◌≡◌, ℕ, suc, List, [], ◌∷◌, ◌++◌, drop, reverse, sym, ap, ◌∙◌, append_assoc}
use Rattle.std.proofs.lemmas.List.{reverse-append, reverse-reverse}

reversed_more : {A : Type 0} (x : A) (xs : List A) → reverse (x ∷ xs) ≡ reverse xs ++ x ∷ []
reversed_more x xs = reverse-append (x ∷ []) xs

pub pushed_back : {A : Type 0} (old ids list : List A) (i : ℕ) (x : A) → list ≡ old ++ reverse (drop (suc i) ids) → drop i ids ≡ x ∷ drop (suc i) ids → list ++ x ∷ [] ≡ old ++ reverse (drop i ids)
pushed_back old ids list i x h e =
    ap (λ l. l ++ x ∷ []) h ∙ append_assoc old (reverse (drop (suc i) ids)) (x ∷ []) ∙ ap (λ l. old ++ l) (sym (reversed_more x (drop (suc i) ids)))
    ∙ ap (λ l. old ++ reverse l) (sym e)

-- the list of what is put before others, in reverse
pub put_before_others : {A : Type 0} (list ids after : List A) (old : List A) → after ≡ list ++ reverse ids → reverse list ≡ old → reverse after ≡ ids ++ old
put_before_others list ids after old put view =
    ap reverse put ∙ reverse-append list (reverse ids) ∙ ap (λ l. l ++ reverse list) (reverse-reverse ids) ∙ ap (λ l. ids ++ l) view

pub taken_out : {A : Type 0} (list rest old : List A) (x : A) → list ≡ rest ++ x ∷ [] → reverse list ≡ old → old ≡ x ∷ reverse rest
taken_out list rest old x e view = sym view ∙ ap reverse e ∙ reverse-append rest (x ∷ [])
