-- What a filter leaves, one item after another.
use Rattle.std.proofs.Common.{◌≡◌, ℕ, Bool, true, false, cond, List, [], ◌∷◌, ◌++◌, suc, drop, refl, sym, ap, subst, ◌∙◌, append_assoc, append-nil, ◌<◌, ◌≤◌, length, get_or, take, take_all, filter}
use Rattle.std.specs.Prelude.{All}
use Rattle.std.proofs.lemmas.List.Elements.{All-nil, All-cons, All-head, All-tail, All-take}
use Rattle.std.proofs.lemmas.List.{take_at}
use Rattle.std.proofs.Math.Seq.{drop-cons, drop-length}

-- the next item of a list
pub next_item : {A : Type 0} (l : List A) (j k : ℕ) (d : A) → j < length l → k ≡ suc j → drop j l ≡ get_or l j d ∷ drop k l
next_item l j k d lt e = drop-cons l j d lt ∙ ap (λ n. get_or l j d ∷ drop n l) (sym e)

pub past_end : {A : Type 0} (l : List A) (i : ℕ) → length l ≡ i → drop i l ≡ []
past_end l i e = ap (λ n. drop n l) (sym e) ∙ drop-length l

module _ {A : Type 0} (p : A → Bool) (all left rest after : List A) (x : A) where
  pub left_past : rest ≡ x ∷ after → p x ≡ false → filter p all ≡ left ++ filter p rest → filter p all ≡ left ++ filter p after
  left_past is isnt h = h ∙ ap (λ o. left ++ filter p o) is ∙ ap (λ b. left ++ cond b (x ∷ filter p after) (filter p after)) isnt

  pub left_more : (then : List A) → then ≡ left ++ x ∷ [] → rest ≡ x ∷ after → p x ≡ true → filter p all ≡ left ++ filter p rest → filter p all ≡ then ++ filter p after
  left_more then more is holds h = h ∙ ap (λ o. left ++ filter p o) is ∙ ap (λ b. left ++ cond b (x ∷ filter p after) (filter p after)) holds
      ∙ sym (append_assoc left (x ∷ []) (filter p after)) ∙ ap (λ o. o ++ filter p after) (sym more)

pub left_full : {A : Type 0} (p : A → Bool) (all left rest : List A) (n : ℕ) → length left ≡ n → filter p all ≡ left ++ filter p rest → left ≡ take n (filter p all)
left_full p all left rest n long h = sym (ap (take n) h ∙ take_at left (filter p rest) n long)

pub left_all : {A : Type 0} (p : A → Bool) (all left rest : List A) (n : ℕ) → rest ≡ [] → length left ≤ n → filter p all ≡ left ++ filter p rest → left ≡ take n (filter p all)
left_all p all left rest n none few h = sym (ap (take n) (h ∙ ap (λ o. left ++ filter p o) none ∙ append-nil left) ∙ take_all n left few)

filtered : {A : Type 0} (P : A → Type 0) (p : A → Bool) (xs : List A) → All P xs → All P (filter p xs)
filtered P p [] all = all
filtered P p (x ∷ xs) all = elim (p x) as (λ b. All P (cond b (x ∷ filter p xs) (filter p xs))) [ true ↦ All-cons P x (filter p xs) (All-head P x xs all) (filtered P p xs (All-tail P x xs all)) | false ↦ filtered P p xs (All-tail P x xs all) ]

-- what holds of all holds of those that are left
pub all_left : {A : Type 0} (P : A → Type 0) (p : A → Bool) (n : ℕ) (xs left : List A) → left ≡ take n (filter p xs) → All P xs → All P left
all_left P p n xs left is all = subst (All P) (sym is) (All-take P n (filter p xs) (filtered P p xs all))

-- and so does what the test says
chosen : {A : Type 0} (P : A → Type 0) (p : A → Bool) (xs : List A) → ((x : A) → p x ≡ true → P x) → All P (filter p xs)
chosen P p [] so = All-nil P
chosen {A} P p (x ∷ xs) so = by (p x) refl (chosen P p xs so)
  where
    by : (b : Bool) → p x ≡ b → All P (filter p xs) → All P (cond b (x ∷ filter p xs) (filter p xs))
    by true e all = All-cons P x (filter p xs) (so x e) all
    by false e all = all

pub all_chosen : {A : Type 0} (P : A → Type 0) (p : A → Bool) (n : ℕ) (xs left : List A) → left ≡ take n (filter p xs) → ((x : A) → p x ≡ true → P x) → All P left
all_chosen P p n xs left is so = subst (All P) (sym is) (All-take P n (filter p xs) (chosen P p xs so))
