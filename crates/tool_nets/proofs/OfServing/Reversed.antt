-- What holds of a list, of the list backwards, and of what is made of its items.
use Rattle.std.proofs.Common.{◌≡◌, List, [], ◌∷◌, ◌++◌, Bool, true, false, ◌||◌, map, reverse, append_assoc, refl, sym, ap, ◌∙◌}
use Rattle.std.specs.Prelude.{All, Some}
use Rattle.std.specs.List.{list_any}
use Rattle.std.proofs.lemmas.List.{map-append, reverse-append}
use Rattle.std.proofs.lemmas.List.Elements.{All-nil, All-cons, All-head, All-tail, All-pop}

backwards : {X : Type 0} (x : X) (xs : List X) → reverse (x ∷ xs) ≡ reverse xs ++ x ∷ []
backwards x xs = reverse-append (x ∷ []) xs

-- ---- all

pub all_reverse : {X : Type 0} (P : X → Type 0) (xs : List X) → All P (reverse xs) → All P xs
all_reverse P [] p = All-nil P
all_reverse P (x ∷ xs) p =
    let parts = All-pop P (reverse (x ∷ xs)) (reverse xs) (Some x) (backwards x xs) p in
    All-cons P x xs parts.1 (all_reverse P xs parts.0)

pub all_behind_map : {X Y : Type 0} (P : Y → Type 0) (f : X → Y) (xs : List X) → All P (map f xs) → All (λ x. P (f x)) xs
all_behind_map P f [] p = All-nil (λ x. P (f x))
all_behind_map P f (x ∷ xs) p = All-cons (λ x. P (f x)) x xs (All-head P (f x) (map f xs) p) (all_behind_map P f xs (All-tail P (f x) (map f xs) p))

-- the last one and those before it
pub all_before : {X : Type 0} (P : X → Type 0) (all before : List X) (last : X) → all ≡ before ++ last ∷ [] → All P all → All P before × P last
all_before P all before last e p = All-pop P all before (Some last) e p

-- ---- any

or_true : (b : Bool) → b || true ≡ true
or_true true = refl
or_true false = refl

or_false : (b : Bool) → b || false ≡ b
or_false true = refl
or_false false = refl

or_comm : (a b : Bool) → a || b ≡ b || a
or_comm true b = sym (or_true b)
or_comm false b = sym (or_false b)

or_assoc : (a b c : Bool) → (a || b) || c ≡ a || (b || c)
or_assoc true b c = refl
or_assoc false b c = refl

any_append : {X : Type 0} (p : X → Bool) (xs ys : List X) → list_any p (xs ++ ys) ≡ list_any p xs || list_any p ys
any_append p [] ys = refl
any_append p (x ∷ xs) ys = ap (λ (b : Bool). p x || b) (any_append p xs ys) ∙ sym (or_assoc (p x) (list_any p xs) (list_any p ys))

pub any_reverse : {X : Type 0} (p : X → Bool) (xs : List X) → list_any p (reverse xs) ≡ list_any p xs
any_reverse p [] = refl
any_reverse p (x ∷ xs) =
    ap (list_any p) (backwards x xs) ∙ any_append p (reverse xs) (x ∷ []) ∙ ap (λ (b : Bool). list_any p (reverse xs) || b) (or_false (p x))
    ∙ or_comm (list_any p (reverse xs)) (p x) ∙ ap (λ (b : Bool). p x || b) (any_reverse p xs)

pub any_map : {X Y : Type 0} (p : Y → Bool) (f : X → Y) (xs : List X) → list_any p (map f xs) ≡ list_any (λ x. p (f x)) xs
any_map p f [] = refl
any_map p f (x ∷ xs) = ap (λ (b : Bool). p (f x) || b) (any_map p f xs)

-- ---- one after another moved to the end of another list

pub moved : {X Y : Type 0} (f : X → Y) (all before : List X) (last : X) (ys : List Y) → all ≡ before ++ last ∷ [] → map f all ++ reverse ys ≡ map f before ++ reverse (ys ++ f last ∷ [])
moved f all before last ys e =
    ap (λ l. map f l ++ reverse ys) e ∙ ap (λ l. l ++ reverse ys) (map-append f before (last ∷ [])) ∙ append_assoc (map f before) (f last ∷ []) (reverse ys)
    ∙ ap (λ l. map f before ++ l) (sym (reverse-append ys (f last ∷ [])))
