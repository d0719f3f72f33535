-- A label that halving comes to is among the labels.
use Rattle.std.proofs.Common.{Equal, ◌≡◌, refl, sym, ap, subst, ℕ, zero, suc, ◌<◌, ℤ, Bool, true, false, ◌||◌, List, [], ◌∷◌, length, get_or, arith}
use Rattle.std.specs.Prelude.{HoldsAt}
use Rattle.std.specs.Ordering.{int_eq, int_cmp, is_eq}
use Rattle.std.proofs.lemmas.Cmp.{int_ranked}
use Rattle.xt_shapes.specs.Lists.{has}

same_number : (x n : ℤ) → int_cmp x n ≡ Equal → int_eq n x ≡ true
same_number x n e = subst (λ (m : ℤ). int_cmp m n ≡ Equal → int_eq n m ≡ true) (sym (int_ranked x n Equal (sym e))) (λ k. ap is_eq k) e

or_first : (a b : Bool) → a ≡ true → (a || b) ≡ true
or_first true b e = refl
or_first false b e = absurd cc

or_next : (a b : Bool) → b ≡ true → (a || b) ≡ true
or_next true b e = refl
or_next false b e = e

label_at : (ls : List ℤ) (i : ℕ) (n d : ℤ) → i < length ls → int_cmp (get_or ls i d) n ≡ Equal → has (int_eq n) ls ≡ true
label_at [] i n d lt e = absurd (omega arith)
label_at (l ∷ ls) zero n d lt e = or_first (int_eq n l) (has (int_eq n) ls) (same_number l n e)
label_at (l ∷ ls) (suc i) n d lt e = or_next (int_eq n l) (has (int_eq n) ls) (label_at ls i n d (omega arith) e)

pub label_met : (ls : List ℤ) (i : ℕ) (n : ℤ) → i < length ls → HoldsAt (λ y. int_cmp y n ≡ Equal) ls i → has (int_eq n) ls ≡ true
label_met ls i n lt held = label_at ls i n n lt (held n)
