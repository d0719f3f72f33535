-- Numbers without a sign, seen as numbers with one.
use Rattle.std.proofs.Common.{◌≡◌, refl, ℕ, pos, List, [], ◌∷◌, map, nat_eq, rules, tests}
use Rattle.std.specs.Ordering.{int_eq}
use Rattle.xt_shapes.specs.Lists.{has}
use Rattle.xt_shapes.specs.NodeRules.{distinct}

same_pos : (m n : ℕ) → int_eq (pos m) (pos n) ≡ nat_eq m n
same_pos m n = search (rules, tests)

has_pos : {A : Type 0} (f : A → ℕ) (n : ℕ) (xs : List A) → has (int_eq (pos n)) (map (λ x. pos (f x)) xs) ≡ has (nat_eq n) (map f xs)
has_pos f n [] = refl
has_pos f n (x ∷ xs) = rw (same_pos n (f x), has_pos f n xs) refl

pub distinct_pos : {A : Type 0} (f : A → ℕ) (xs : List A) → distinct int_eq (map (λ x. pos (f x)) xs) ≡ distinct nat_eq (map f xs)
distinct_pos f [] = refl
distinct_pos f (x ∷ xs) = rw (has_pos f (f x) xs, distinct_pos f xs) refl
