-- Two lists side by side, one of each on.
use Rattle.std.proofs.Common.{◌≡◌, refl, ℕ, suc, ◌+◌, ◌<◌, ◌≤◌, List, [], ◌∷◌, length, get_or, drop, map, Bool, true, false, ◌&&◌, ap, ◌∙◌}
use Rattle.std.proofs.lemmas.List.{drop_more, drop_all}
use Rattle.xt_shapes.specs.Shape.{Head, Members, no_members, member}
use Rattle.xcdr_model.specs.Equivalence.{each_pair}
use Rattle.xcdr_model.specs.Rules.{same_places}
use Rattle.node_judge.specs.Bare.{bare}

both_false : (b : Bool) → (b && false) ≡ false
both_false true = refl
both_false false = refl

pub each_unequal : {A B : Type 0} (f : B → B → Bool) (g : A → B) (xs ys : List A) → (length xs ≡ length ys → ⊥) → each_pair f (map g xs) (map g ys) ≡ false
each_unequal f g [] [] h = absurd (h refl)
each_unequal f g [] (y ∷ ys) h = refl
each_unequal f g (x ∷ xs) [] h = refl
each_unequal f g (x ∷ xs) (y ∷ ys) h = rw (each_unequal f g xs ys (λ e. h (ap suc e))) (both_false _)

pub each_step : {A B : Type 0} (f : B → B → Bool) (g : A → B) (b : Bool) (xs ys : List A) (i : ℕ) (x y : A) → i < length xs → i < length ys → x ≡ get_or xs i x → y ≡ get_or ys i y → b ≡ f (g x) (g y)
    → each_pair f (map g (drop i xs)) (map g (drop i ys)) ≡ (b && each_pair f (map g (drop (i + 1) xs)) (map g (drop (i + 1) ys)))
each_step f g b xs ys i x y p q is_x is_y is = rw (drop_more xs i x p, drop_more ys i y q, ← is_x, ← is_y, is) refl

places_none : (ms : Members) → same_places ms no_members ≡ true
places_none no_members = refl
places_none (member h t ms) = refl

-- no place is left on the right
pub places_right : {A : Type 0} (g : A → Head) (ms ns : List A) (i : ℕ) → length ns ≤ i → same_places (bare (map g (drop i ms))) (bare (map g (drop i ns))) ≡ true
places_right g ms ns i past = ap (λ l. same_places (bare (map g (drop i ms))) (bare (map g l))) (drop_all i ns past) ∙ places_none (bare (map g (drop i ms)))
