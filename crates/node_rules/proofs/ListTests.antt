-- Tests of lists that std's iterators give.
use Rattle.std.proofs.Common.{◌≡◌, refl, ap, Bool, ◌||◌, List, [], ◌∷◌, map}
use Rattle.std.specs.List.{list_any}
use Rattle.xt_shapes.specs.Lists.{has}

pub list_any_mapped : {A B : Type 0} (f : A → B) (p : B → Bool) (xs : List A) → list_any (λ x. p (f x)) xs ≡ has p (map f xs)
list_any_mapped f p [] = refl
list_any_mapped f p (x ∷ xs) = ap (λ b. p (f x) || b) (list_any_mapped f p xs)
