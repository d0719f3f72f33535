-- Spelling the items of a list, one after another.
use Rattle.std.proofs.Common.{◌≡◌, ℕ, ◌+◌, ◌<◌, List, [], ◌∷◌, ◌++◌, sym, ap, ◌∙◌, refl, length, take, get_or, append_assoc, append-nil, length-append}
use Rattle.std.proofs.lemmas.List.{take_more}
use Rattle.type_lookup.specs.messages.Spelling.{all_octets}

pub all-append : {T : Type 0} (item : T → List ℕ) (xs ys : List T) → all_octets item (xs ++ ys) ≡ all_octets item xs ++ all_octets item ys
all-append item [] ys = refl
all-append item (x ∷ xs) ys = ap (λ l. item x ++ l) (all-append item xs ys) ∙ sym (append_assoc (item x) (all_octets item xs) (all_octets item ys))

-- one item more
items-more : {T : Type 0} (item : T → List ℕ) (xs : List T) (i : ℕ) (x d : T) → x ≡ get_or xs i d → i < length xs → all_octets item (take (i + 1) xs) ≡ all_octets item (take i xs) ++ item x
items-more item xs i x d e lt =
    ap (all_octets item) (take_more xs i d lt) ∙ all-append item (take i xs) (get_or xs i d ∷ []) ∙ ap (λ l. all_octets item (take i xs) ++ l) (append-nil (item (get_or xs i d)) ∙ ap item (sym e))

pub sized-more : {T : Type 0} (item : T → List ℕ) (xs : List T) (i : ℕ) (x d : T) → x ≡ get_or xs i d → i < length xs → length (all_octets item (take (i + 1) xs)) ≡ length (all_octets item (take i xs)) + length (item x)
sized-more item xs i x d e lt = ap length (items-more item xs i x d e lt) ∙ length-append (all_octets item (take i xs)) (item x)

pub spelled-more : {T : Type 0} (item : T → List ℕ) (xs : List T) (i : ℕ) (x d : T) (init old new : List ℕ) → old ≡ init ++ all_octets item (take i xs)
    → new ≡ old ++ item x → x ≡ get_or xs i d → i < length xs → new ≡ init ++ all_octets item (take (i + 1) xs)
spelled-more item xs i x d init old new p q e lt =
    q ∙ ap (λ l. l ++ item x) p ∙ append_assoc init (all_octets item (take i xs)) (item x) ∙ ap (λ l. init ++ l) (sym (items-more item xs i x d e lt))
