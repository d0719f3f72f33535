-- The numbers of members, as lists and as sets hold them.
use Rattle.std.proofs.Common.{◌≡◌, refl, sym, ap, ◌∙◌, ℕ, Bool, true, false, not, ◌&&◌, ◌||◌, cond, nat_eq, List, [], ◌∷◌, ◌++◌, map, arith, tests}
use Rattle.std.proofs.lemmas.Bool.{and_parts}
use Rattle.std.specs.BTreeSet as set
use Rattle.std.specs.BTreeSet.{BTreeSet, contains}
use Rattle.std.specs.Ordering.{nat_cmp, is_eq}
use Rattle.xt_shapes.specs.Lists.{has, all}
use Rattle.xt_shapes.specs.NodeRules.{distinct}
use Rattle.xt_idl.specs.declared.numbers.NumberSets.{NumberSets}
use Rattle.xt_idl.specs.Numbers.{MemberNumbers, lacks, apart, apart_behind, Holds}

-- ---- of tests

both : (a b : Bool) → a ≡ true → b ≡ true → (a && b) ≡ true
both a b p q = rw (p, q) refl

pub has_append : {A : Type 0} (p : A → Bool) (xs ys : List A) → has p (xs ++ ys) ≡ (has p xs || has p ys)
has_append p [] ys = refl
has_append p (x ∷ xs) ys = ap (λ b. p x || b) (has_append p xs ys) ∙ or_assoc (p x) (has p xs) (has p ys)
  where
    or_assoc : (a b c : Bool) → (a || (b || c)) ≡ ((a || b) || c)
    or_assoc true b c = refl
    or_assoc false b c = refl

has_map : {A B : Type 0} (f : A → B) (p : B → Bool) (xs : List A) → has p (map f xs) ≡ has (λ x. p (f x)) xs
has_map f p [] = refl
has_map f p (x ∷ xs) = ap (λ b. p (f x) || b) (has_map f p xs)

same_both : (a b : ℕ) → nat_eq a b ≡ nat_eq b a
same_both a b = grind (arith, tests)

neither : (a b c d : Bool) → (not (a || b) && not (c || d)) ≡ ((not a && not c) && (not b && not d))
neither true b c d = refl
neither false true true d = refl
neither false true false d = refl
neither false false true d = refl
neither false false false d = refl

-- ---- one among others

pub lacks_append : (n : MemberNumbers) (xs ys : List MemberNumbers) → lacks n (xs ++ ys) ≡ (lacks n xs && lacks n ys)
lacks_append n xs ys =
    rw (has_append (λ x. nat_eq n.hash x.hash) xs ys, has_append (λ x. nat_eq n.id x.id) xs ys) (neither (has (λ x. nat_eq n.hash x.hash) xs) (has (λ x. nat_eq n.hash x.hash) ys) (has (λ x. nat_eq n.id x.id) xs) (has (λ x. nat_eq n.id x.id) ys))

lacks_one : (n x : MemberNumbers) → lacks n (x ∷ []) ≡ lacks x (n ∷ [])
lacks_one n x = rw (same_both n.hash x.hash, same_both n.id x.id) refl

four : (a b c d : Bool) → ((a && b) && (c && d)) ≡ ((a && c) && (b && d))
four true true c d = refl
four true false true d = refl
four true false false d = refl
four false b c d = refl

pub apart_more : (ns : List MemberNumbers) (n : MemberNumbers) → apart (ns ++ n ∷ []) ≡ (apart ns && lacks n ns)
apart_more [] n = refl
apart_more (x ∷ ns) n =
    rw (lacks_append x ns (n ∷ []), apart_more ns n, lacks_one x n, lacks_append n (x ∷ []) ns) (turned (lacks x ns) (lacks n (x ∷ [])) (apart ns) (lacks n ns))
  where
    turned : (a b c d : Bool) → ((a && b) && (c && d)) ≡ ((a && c) && (b && d))
    turned a b c d = four a b c d

all_more : {A : Type 0} (p : A → Bool) (xs : List A) (x : A) → all p (xs ++ x ∷ []) ≡ (all p xs && p x)
all_more p [] x = last (p x)
  where
    last : (a : Bool) → (a && true) ≡ a
    last true = refl
    last false = refl
all_more p (y ∷ xs) x = ap (λ b. p y && b) (all_more p xs x) ∙ together (p y) (all p xs) (p x)
  where
    together : (a b c : Bool) → (a && (b && c)) ≡ ((a && b) && c)
    together true b c = refl
    together false b c = refl

pub behind_more : (before ns : List MemberNumbers) (n : MemberNumbers) → apart_behind before (ns ++ n ∷ []) ≡ (apart_behind before ns && (lacks n ns && lacks n before))
behind_more before ns n = rw (apart_more ns n, all_more (λ x. lacks x before) ns n) (four (apart ns) (lacks n ns) (all (λ x. lacks x before) ns) (lacks n before))

-- ---- lists in which no two are the same

each_lacks : (x : MemberNumbers) (xs ys : List MemberNumbers) → all (λ y. lacks y (x ∷ xs)) ys ≡ true → (lacks x ys ≡ true) × (all (λ y. lacks y xs) ys ≡ true)
each_lacks x xs [] e = (refl, refl)
each_lacks x xs (y ∷ ys) e =
    let here = and_parts _ _ e in
    let split = and_parts _ _ (sym (lacks_append y (x ∷ []) xs) ∙ here.0) in
    let rest = each_lacks x xs ys here.1 in
    (lacks_append x (y ∷ []) ys ∙ both _ _ (lacks_one x y ∙ split.0) rest.0, both _ _ split.1 rest.1)

pub apart_append : (xs ys : List MemberNumbers) → apart xs ≡ true → apart_behind xs ys ≡ true → apart (xs ++ ys) ≡ true
apart_append [] ys first second = (and_parts _ _ second).0
apart_append (x ∷ xs) ys first second =
    let one = and_parts _ _ first in
    let two = and_parts _ _ second in
    let each = each_lacks x xs ys two.1 in
    both _ _ (lacks_append x xs ys ∙ both _ _ one.0 each.0) (apart_append xs ys one.1 (both _ _ two.0 each.1))

pub apart_both : (ns : List MemberNumbers) → apart ns ≡ (distinct nat_eq (map (λ n. n.hash) ns) && distinct nat_eq (map (λ n. n.id) ns))
apart_both [] = refl
apart_both (n ∷ ns) =
    rw (has_map (λ x. x.hash) (nat_eq n.hash) ns, has_map (λ x. x.id) (nat_eq n.id) ns, apart_both ns)
    (four (not (has (λ x. nat_eq n.hash x.hash) ns)) (not (has (λ x. nat_eq n.id x.id) ns)) (distinct nat_eq (map (λ n. n.hash) ns)) (distinct nat_eq (map (λ n. n.id) ns)))

-- ---- sets

at_number : (a b : ℕ) → is_eq (nat_cmp a b) ≡ nat_eq a b
at_number a b = grind (arith, tests)

either_way : (a b : Bool) → cond a true b ≡ (b || a)
either_way true true = refl
either_way true false = refl
either_way false true = refl
either_way false false = refl

one_more : (n : ℕ) (f : MemberNumbers → ℕ) (ns : List MemberNumbers) (x : MemberNumbers) (old new : BTreeSet ℕ) → set.UpdatesBy nat_cmp (nat_cmp (f x)) old new true → contains nat_cmp old n ≡ has (λ y. nat_eq n (f y)) ns
    → contains nat_cmp new n ≡ has (λ y. nat_eq n (f y)) (ns ++ x ∷ [])
one_more n f ns x old new updates held =
    updates.0 n ∙ rw (at_number (f x) n, same_both (f x) n, held) (either_way (nat_eq n (f x)) (has (λ y. nat_eq n (f y)) ns)) ∙ sym (has_append (λ y. nat_eq n (f y)) ns (x ∷ []) ∙ ap (λ b. has (λ y. nat_eq n (f y)) ns || b) (no_more (nat_eq n (f x))))
  where
    no_more : (a : Bool) → (a || false) ≡ a
    no_more true = refl
    no_more false = refl

pub holds_more : (ns : List MemberNumbers) (x : MemberNumbers) (old new : NumberSets) → set.UpdatesBy nat_cmp (nat_cmp x.hash) old.hashes new.hashes true → set.UpdatesBy nat_cmp (nat_cmp x.id) old.ids new.ids true → Holds ns old
    → Holds (ns ++ x ∷ []) new
holds_more ns x old new hashes ids held = (
  λ n. one_more n (λ y. y.hash) ns x old.hashes new.hashes hashes (held.0 n),
  λ n. one_more n (λ y. y.id) ns x old.ids new.ids ids (held.1 n),
)

pub lacks_by : (n : MemberNumbers) (ns : List MemberNumbers) (sets : NumberSets) → Holds ns sets → (not (contains nat_cmp sets.hashes n.hash) && not (contains nat_cmp sets.ids n.id)) ≡ lacks n ns
lacks_by n ns sets held = rw (held.0 n.hash, held.1 n.id) refl
