-- Numbers that repeat are next to each other where the numbers are in order.
use Rattle.std.proofs.Common.{◌≡◌, refl, sym, ap, ◌∙◌, ℕ, suc, ◌+◌, ◌*◌, ◌<◌, ◌≤◌, Bool, true, false, cond, ◌||◌, List, [], ◌∷◌, length, arith}
use Rattle.std.proofs.lemmas.List.Sorted.{sum_by-IsPermutation, length_permutation}
use Rattle.std.proofs.lemmas.List.Sums.{sum_by-cons}
use Rattle.std.specs.declared.cmp.Ordering.{Ordering}
use Rattle.std.specs.declared.cmp.Ordering.TheVariants.{Less, Equal, Greater}
use Rattle.std.specs.Cmp.{IsTotalOrder, alike_right}
use Rattle.std.specs.List.{sum_by}
use Rattle.std.specs.List.Sorted.{IsPermutation, IsSorted}
use Rattle.std.specs.Ordering.{is_lt, is_eq, ordering_reverse}
use Rattle.xt_shapes.specs.Lists.{has}
use Rattle.node_rules.specs.distinct.Repeats.{repeats_by, next_is_same, any_next_is_same}

-- ---- the order does not matter

abbrev one_if : Bool → ℕ
one_if b = cond b 1 0

-- how many of the list are the same as k, and how many are the same as one of the list, counted for each
abbrev like : {K : Type 0} → (K → K → Bool) → List K → K → ℕ
like same xs k = sum_by (λ y. one_if (same k y)) xs

abbrev matches : {K : Type 0} → (K → K → Bool) → List K → List K → ℕ
matches same xs ys = sum_by (λ k. like same ys k) xs

has_none : {A : Type 0} (p : A → Bool) (xs : List A) → has p xs ≡ false → sum_by (λ y. one_if (p y)) xs ≡ 0
has_none p [] e = refl
has_none p (x ∷ xs) e =
    let (here, more) = neither (p x) (has p xs) e in
    sum_by-cons (λ y. one_if (p y)) x xs ∙ rw (here, has_none p xs more) refl
  where
    neither : (a b : Bool) → (a || b) ≡ false → (a ≡ false) × (b ≡ false)
    neither true b e = absurd cc
    neither false b e = (refl, e)

first_some : {A : Type 0} (p : A → Bool) (x : A) (xs : List A) → (has p xs ≡ true → 1 ≤ sum_by (λ y. one_if (p y)) xs) → (b : Bool) → p x ≡ b → (b || has p xs) ≡ true → 1 ≤ sum_by (λ y. one_if (p y)) (x ∷ xs)
first_some p x xs more true here e =
    let one : one_if (p x) ≡ 1 = ap one_if here in
    omega (arith, sum_by-cons (λ y. one_if (p y)) x xs, one)
first_some p x xs more false here e =
    let some = more e in
    omega (arith, sum_by-cons (λ y. one_if (p y)) x xs, some)

has_some : {A : Type 0} (p : A → Bool) (xs : List A) → has p xs ≡ true → 1 ≤ sum_by (λ y. one_if (p y)) xs
has_some p [] e = absurd cc
has_some p (x ∷ xs) e = first_some p x xs (has_some p xs) (p x) refl e

plus_sum : {A : Type 0} (f g : A → ℕ) (xs : List A) → sum_by (λ x. f x + g x) xs ≡ sum_by f xs + sum_by g xs
plus_sum f g [] = refl
plus_sum f g (x ∷ xs) =
    let more = plus_sum f g xs in
    omega (arith, sum_by-cons (λ y. f y + g y) x xs, sum_by-cons f x xs, sum_by-cons g x xs, more)

same_sum : {A : Type 0} (f g : A → ℕ) (xs : List A) → ((x : A) → f x ≡ g x) → sum_by f xs ≡ sum_by g xs
same_sum f g xs e = ap (λ h. sum_by h xs) (λ i x. e x i)

-- ---- the same in an order

abbrev alike : {K : Type 0} → (K → K → Ordering) → K → K → Bool
alike R a b = is_eq (R a b)

turned : (o : Ordering) → is_eq (ordering_reverse o) ≡ is_eq o
turned Less = refl
turned Equal = refl
turned Greater = refl

own_reverse : (o : Ordering) → o ≡ ordering_reverse o → is_eq o ≡ true
own_reverse Less e = absurd cc
own_reverse Equal e = refl
own_reverse Greater e = absurd cc

alike_turned : {K : Type 0} (R : K → K → Ordering) → IsTotalOrder R → (a b : K) → alike R a b ≡ alike R b a
alike_turned R total a b = ap is_eq (total.antisymm a b) ∙ turned (R b a)

alike_itself : {K : Type 0} (R : K → K → Ordering) → IsTotalOrder R → (a : K) → alike R a a ≡ true
alike_itself R total a = own_reverse (R a a) (total.antisymm a a)

one_matches : {K : Type 0} (R : K → K → Ordering) → IsTotalOrder R → (x : K) (xs : List K) → matches (alike R) (x ∷ xs) (x ∷ xs) ≡ 1 + 2 * like (alike R) xs x + matches (alike R) xs xs
one_matches R total x xs =
    let first = sum_by-cons (λ k. like (alike R) (x ∷ xs) k) x xs in
    let own = sum_by-cons (λ y. one_if (alike R x y)) x xs in
    let itself : one_if (alike R x x) ≡ 1 = ap one_if (alike_itself R total x) in
    let others = same_sum (λ k. like (alike R) (x ∷ xs) k) (λ k. one_if (alike R k x) + like (alike R) xs k) xs (λ k. sum_by-cons (λ y. one_if (alike R k y)) x xs) in
    let split = plus_sum (λ k. one_if (alike R k x)) (λ k. like (alike R) xs k) xs in
    let back = same_sum (λ k. one_if (alike R k x)) (λ k. one_if (alike R x k)) xs (λ k. ap one_if (alike_turned R total k x)) in
    omega (arith, first, own, itself, others, split, back)

-- the matches are as many as the keys where no key repeats, and else more
abbrev Counted : {K : Type 0} → (K → K → Ordering) → List K → Bool → Type 0
Counted R xs true = length xs < matches (alike R) xs xs
Counted R xs false = matches (alike R) xs xs ≡ length xs

at_least : {K : Type 0} (R : K → K → Ordering) (xs : List K) (b : Bool) → Counted R xs b → length xs ≤ matches (alike R) xs xs
at_least R xs true h = omega (arith, h)
at_least R xs false h = omega (arith, h)

counted : {K : Type 0} (R : K → K → Ordering) → IsTotalOrder R → (xs : List K) → Counted R xs (repeats_by (alike R) xs)
counted R total [] = refl
counted R total (x ∷ xs) = by_first (has (alike R x) xs) refl (repeats_by (alike R) xs) (counted R total xs)
  where
    by_first : (b : Bool) → has (alike R x) xs ≡ b → (c : Bool) → Counted R xs c → Counted R (x ∷ xs) (b || c)
    by_first true here c more = omega (arith, one_matches R total x xs, has_some (alike R x) xs here, at_least R xs c more)
    by_first false here true more = omega (arith, one_matches R total x xs, has_none (alike R x) xs here, more)
    by_first false here false more = omega (arith, one_matches R total x xs, has_none (alike R x) xs here, more)

matches_moved : {K : Type 0} (R : K → K → Ordering) (xs ys : List K) → IsPermutation xs ys → matches (alike R) ys ys ≡ matches (alike R) xs xs
matches_moved R xs ys moved =
    sum_by-IsPermutation (λ k. like (alike R) ys k) xs ys moved
    ∙ same_sum (λ k. like (alike R) ys k) (λ k. like (alike R) xs k) xs (λ k. sum_by-IsPermutation (λ y. one_if (alike R k y)) xs ys moved)

moved_repeats : {K : Type 0} (R : K → K → Ordering) → IsTotalOrder R → (xs ys : List K) → IsPermutation xs ys → repeats_by (alike R) ys ≡ repeats_by (alike R) xs
moved_repeats R total xs ys moved = by_counts (repeats_by (alike R) ys) (repeats_by (alike R) xs) (counted R total ys) (counted R total xs)
  where
    by_counts : (b c : Bool) → Counted R ys b → Counted R xs c → b ≡ c
    by_counts true true h k = refl
    by_counts false false h k = refl
    by_counts true false h k = absurd (omega (arith, h, k, matches_moved R xs ys moved, length_permutation xs ys moved))
    by_counts false true h k = absurd (omega (arith, h, k, matches_moved R xs ys moved, length_permutation xs ys moved))

-- ---- keys in order

abbrev InOrder : {K : Type 0} → (K → K → Ordering) → K → List K → Type 0
InOrder R k [] = Unit {0}
InOrder R k (x ∷ xs) = (is_lt (R x k) ≡ false) × InOrder R x xs

in_order : {K : Type 0} (R : K → K → Ordering) (k : K) (xs : List K) → IsSorted R (k ∷ xs) → InOrder R k xs
in_order R k [] sorted = tt
in_order {K = K} R k (x ∷ xs) sorted = (sorted 0 k (omega arith) (omega arith), in_order R x xs later)
  where
    later : IsSorted R (x ∷ xs)
    later j d low high =
        let next : j + 1 ≡ suc j = omega arith in
        let after : j + 1 + 1 ≡ suc (suc j) = omega arith in
        let r = sorted (j + 1) d (omega arith) (omega (arith, high)) in
        rw next (rw (after, next) at r)

above : {K : Type 0} (R : K → K → Ordering) → IsTotalOrder R → (k x : K) (xs : List K) → R k x ≡ Less → InOrder R x xs → has (alike R k) xs ≡ false
above R total k x [] less order = refl
above R total k x (y ∷ ys) less order =
    let here = next_less (R x y) refl in
    rw (here, above R total k y ys here order.1) refl
  where
    next_less : (o : Ordering) → R x y ≡ o → R k y ≡ Less
    next_less Less is = total.trans k x y less is
    next_less Equal is = sym (alike_right total x y k is) ∙ less
    next_less Greater is =
        let back : R y x ≡ Less = total.antisymm y x ∙ ap ordering_reverse is in
        let z : true ≡ false = sym (ap is_lt back) ∙ order.0 in
        absurd cc

next_neighbours : {K : Type 0} (R : K → K → Ordering) → IsTotalOrder R → (k x : K) (xs : List K) → InOrder R k (x ∷ xs) → next_is_same (alike R) x xs ≡ repeats_by (alike R) (x ∷ xs) → (o : Ordering) → R k x ≡ o
    → next_is_same (alike R) k (x ∷ xs) ≡ repeats_by (alike R) (k ∷ x ∷ xs)
next_neighbours R total k x xs order more Less is = rw (is, above R total k x xs is order.1) more
next_neighbours R total k x xs order more Equal is = rw is refl
next_neighbours R total k x xs order more Greater is =
    let back : R x k ≡ Less = total.antisymm x k ∙ ap ordering_reverse is in
    let z : true ≡ false = sym (ap is_lt back) ∙ order.0 in
    absurd cc

neighbours : {K : Type 0} (R : K → K → Ordering) → IsTotalOrder R → (k : K) (xs : List K) → InOrder R k xs → next_is_same (alike R) k xs ≡ repeats_by (alike R) (k ∷ xs)
neighbours R total k [] order = refl
neighbours R total k (x ∷ xs) order = next_neighbours R total k x xs order (neighbours R total x xs order.1) (R k x) refl

-- in a list that was sorted, some key and the next are the same where two keys of the list were
pub sorted_repeats : {K : Type 0} (R : K → K → Ordering) → IsTotalOrder R → (xs ys : List K) → IsPermutation xs ys → IsSorted R ys → any_next_is_same (λ a b. is_eq (R a b)) ys ≡ repeats_by (λ a b. is_eq (R a b)) xs
sorted_repeats R total xs [] moved sorted = moved_repeats R total xs [] moved
sorted_repeats R total xs (k ∷ ks) moved sorted = neighbours R total k ks (in_order R k ks sorted) ∙ moved_repeats R total xs (k ∷ ks) moved
