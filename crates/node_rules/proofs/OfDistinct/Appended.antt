-- Two lists one behind the other are distinct where each is, and no item is in both.
use Rattle.std.proofs.Common.{◌≡◌, refl, sym, ap, ◌∙◌, append_assoc, length-append, arith, ℕ, ℤ, ◌<◌, Bool, true, false, cond, not, ◌&&◌, ◌||◌, List, [], ◌∷◌, ◌++◌, length, inl, inr, MatchBool}
use Rattle.std.proofs.lemmas.Bool.{cases_lt}
use Rattle.std.proofs.lemmas.Bool.Decides.{Decides-by_or}
use Rattle.std.specs.Bool.{Decides}
use Rattle.std.proofs.lemmas.Cmp.{int_cmp_total}
use Rattle.std.proofs.lemmas.List.Sorted.{list_any-IsPermutation, length_permutation, searchable_from_sorted}
use Rattle.std.specs.declared.cmp.Ordering.{Ordering}
use Rattle.std.specs.declared.cmp.Ordering.TheVariants.{Less, Equal, Greater}
use Rattle.std.specs.List.{HoldsAt, list_any}
use Rattle.std.specs.List.Sorted.{IsPermutation, IsSorted, IsNonDecreasingBy, IsPartitionPoint}
use Rattle.std.specs.Ordering.{int_eq, int_cmp, is_eq, ordering_index}
use Rattle.xt_shapes.specs.Lists.{has, all}
use Rattle.xt_shapes.specs.NodeRules.{distinct}
use Rattle.node_rules.specs.distinct.InBlocks.{holds_one, without, IsTaken, IsFilled, IsOrdered}
use Rattle.node_rules.specs.distinct.Repeats.{repeats_by, any_next_is_same}
use Rattle.node_rules.proofs.OfDistinct.InOrder.{sorted_repeats}

or_assoc : (a b c : Bool) → (a || (b || c)) ≡ ((a || b) || c)
or_assoc true b c = refl
or_assoc false b c = refl

has_append : {A : Type 0} (p : A → Bool) (xs ys : List A) → has p (xs ++ ys) ≡ (has p xs || has p ys)
has_append p [] ys = refl
has_append p (x ∷ xs) ys = ap (λ b. p x || b) (has_append p xs ys) ∙ or_assoc (p x) (has p xs) (has p ys)

has_none : {A : Type 0} (ys : List A) → has (λ y. false) ys ≡ false
has_none [] = refl
has_none (y ∷ ys) = has_none ys

middle : (a b c d : Bool) → ((a || b) || (c || d)) ≡ ((a || c) || (b || d))
middle true b c d = refl
middle false true true d = refl
middle false true false d = refl
middle false false c d = refl

has_either : {A : Type 0} (p q : A → Bool) (ys : List A) → has (λ y. p y || q y) ys ≡ (has p ys || has q ys)
has_either p q [] = refl
has_either p q (y ∷ ys) = ap (λ b. (p y || q y) || b) (has_either p q ys) ∙ middle (p y) (q y) (has p ys) (has q ys)

apart : (a b d q r : Bool) → (not (a || b) && ((d && not q) && r)) ≡ (((not a && d) && not (b || q)) && r)
apart true b d q r = refl
apart false true true q r = refl
apart false true false q r = refl
apart false false d q r = refl

distinct_append : {A : Type 0} (eq : A → A → Bool) (xs ys : List A) → distinct eq (xs ++ ys) ≡ ((distinct eq xs && not (has (λ y. has (λ x. eq x y) xs) ys)) && distinct eq ys)
distinct_append eq [] ys = ap (λ b. not b && distinct eq ys) (sym (has_none ys))
distinct_append eq (x ∷ xs) ys =
    rw (has_append (eq x) xs ys, distinct_append eq xs ys, has_either (eq x) (λ y. has (λ z. eq z y) xs) ys)
    (apart (has (eq x) xs) (has (eq x) ys) (distinct eq xs) (has (λ y. has (λ z. eq z y) xs) ys) (distinct eq ys))

no_more : (d r q : Bool) → ((d && not (true || q)) && r) ≡ false
no_more true r q = refl
no_more false r q = refl

-- a number that is in the block before it comes again
pub repeated : (block rest : List ℤ) {all before slice : List ℤ} (n m : ℤ) → all ≡ block ++ before → before ≡ n ∷ rest → slice ≡ block → true ≡ holds_one slice m → m ≡ n → distinct int_eq all ≡ false
repeated block rest n m split first same held is =
    let here : holds_one block n ≡ true = rw (← same, ← is) (sym held) in
    rw (split, first, distinct_append int_eq block (n ∷ rest), here) (no_more (distinct int_eq block) (distinct int_eq (n ∷ rest)) (has (holds_one block) rest))

-- a number that is not in the block may join it
pub joined : {block slice new : List ℤ} (m k : ℤ) → distinct int_eq block ≡ true → slice ≡ block → false ≡ holds_one slice m → new ≡ block ++ k ∷ [] → k ≡ m → distinct int_eq new ≡ true
joined {block = block} m k apart_so_far same absent longer is =
    let here : holds_one block k ≡ false = rw (← same, is) (sym absent) in
    rw (longer, distinct_append int_eq block (k ∷ []), apart_so_far, here) refl

-- what stands behind the block begins one later
pub moved : (block rest : List ℤ) {all before new : List ℤ} (n k : ℤ) → all ≡ block ++ before → before ≡ n ∷ rest → new ≡ block ++ k ∷ [] → k ≡ n → all ≡ new ++ rest
moved block rest n k split first longer is = rw (split, first, longer, is) (sym (append_assoc block (n ∷ []) rest))

-- ---- sorted blocks

or_not : (a b : Bool) → not (a || b) ≡ (not a && not b)
or_not true b = refl
or_not false b = refl

apart_or_repeats : (eq : ℤ → ℤ → Bool) (xs : List ℤ) → distinct eq xs ≡ not (repeats_by eq xs)
apart_or_repeats eq [] = refl
apart_or_repeats eq (x ∷ xs) = ap (λ b. not (has (eq x) xs) && b) (apart_or_repeats eq xs) ∙ sym (or_not (has (eq x) xs) (repeats_by eq xs))

has_is_any : (p : ℤ → Bool) (xs : List ℤ) → has p xs ≡ list_any p xs
has_is_any p [] = refl
has_is_any p (x ∷ xs) = ap (λ b. p x || b) (has_is_any p xs)

has_moved : (p : ℤ → Bool) (xs ys : List ℤ) → IsPermutation xs ys → has p xs ≡ has p ys
has_moved p xs ys moved = has_is_any p xs ∙ list_any-IsPermutation p xs ys moved ∙ sym (has_is_any p ys)

same_has : (p q : ℤ → Bool) (xs : List ℤ) → ((x : ℤ) → p x ≡ q x) → has p xs ≡ has q xs
same_has p q [] e = refl
same_has p q (x ∷ xs) e = rw (e x, same_has p q xs e) refl

-- in a block that was sorted, a number and the next are the same where two numbers are the same
pub sorted_apart : (xs ys : List ℤ) → IsPermutation xs ys → IsSorted int_cmp ys → distinct int_eq xs ≡ not (any_next_is_same int_eq ys)
sorted_apart xs ys moved sorted = apart_or_repeats int_eq xs ∙ ap not (sym (sorted_repeats int_cmp int_cmp_total xs ys moved sorted))

-- where numbers at the front are the same, two are the same
pub repeated_front : (all front rest : List ℤ) → all ≡ front ++ rest → distinct int_eq front ≡ false → distinct int_eq all ≡ false
repeated_front all front rest split twice = rw (split, distinct_append int_eq front rest, twice) refl

no_block : (front block : List ℤ) → IsPermutation front block → block ≡ [] → front ≡ []
no_block [] block moved none = refl
no_block (x ∷ xs) block moved none =
    let same = length_permutation (x ∷ xs) block moved in
    let zero : length block ≡ 0 = ap (λ (l : List ℤ). length l) none in
    absurd (omega (arith, same, zero))

-- a block that was taken, sorted
pub filled : (all front block rest : List ℤ) → IsTaken all front rest → IsPermutation front block → IsSorted int_cmp block → any_next_is_same int_eq block ≡ false → IsFilled all block rest
filled all front block rest taken moved sorted none = record {
  front = front;
  split = taken.split;
  moved = moved;
  sorted = sorted;
  apart = sorted_apart front block moved sorted ∙ ap not none;
  fewer = omega (arith, ap (λ (l : List ℤ). length l) taken.split, length-append front rest, length_permutation front block moved);
  ends = λ e. let empty = no_block front block moved e in taken.split ∙ rw (empty, taken.ends empty) refl;
}

-- a block that was taken and sorted, in which a number and the next are the same or not
pub sorted_block : (all front block rest : List ℤ) (b : Bool) → IsTaken all front rest → IsPermutation front block → IsSorted int_cmp block → b ≡ any_next_is_same int_eq block → MatchBool (not b) (IsFilled all block rest) (distinct int_eq all ≡ false)
sorted_block all front block rest true taken moved sorted is = repeated_front all front rest taken.split (sorted_apart front block moved sorted ∙ ap not (sym is))
sorted_block all front block rest false taken moved sorted is = filled all front block rest taken moved sorted (sym is)

-- a whole block is held against what follows it
pub behind : {all block rest slice : List ℤ} (met : Bool) → IsFilled all block rest → slice ≡ block → met ≡ has (holds_one slice) rest → distinct int_eq all ≡ (not met && distinct int_eq rest)
behind {block = block} {rest = rest} met filled same is =
    let front = filled.front in
    let both : has (holds_one front) rest ≡ has (holds_one block) rest = same_has (holds_one front) (holds_one block) rest (λ n. has_moved (λ held. int_eq held n) front block filled.moved) in
    let here : has (holds_one front) rest ≡ met = both ∙ rw (← same) (sym is) in
    rw (filled.split, distinct_append int_eq front rest, filled.apart, here) refl

-- ---- the search

eq_decides : (o : Ordering) → Decides (is_eq o) (o ≡ Equal)
eq_decides Less = ((λ e. absurd cc), (λ e. absurd cc))
eq_decides Equal = ((λ e. refl), (λ e. refl))
eq_decides Greater = ((λ e. absurd cc), (λ e. absurd cc))

among : (block : List ℤ) (n : ℤ) → Decides (holds_one block n) ((k : ℕ) × (k < length block) × HoldsAt (λ y. int_cmp y n ≡ Equal) block k)
among block n = Decides-by_or (λ held. int_eq held n) (λ y. int_cmp y n ≡ Equal) (has (λ held. int_eq held n)) (λ y. eq_decides (int_cmp y n)) refl (λ y ys. refl) block

-- what a search found is there
pub found : (block : List ℤ) (n : ℤ) (k : ℕ) → k < length block → HoldsAt (λ y. int_cmp y n ≡ Equal) block k → true ≡ holds_one block n
found block n k below here = sym ((among block n).1 (k, below, here))

not_there : (b : Bool) (P : Type 0) → Decides b P → (P → ⊥) → false ≡ b
not_there true P d none = absurd (none (d.0 refl))
not_there false P d none = refl

-- what a search did not find in a sorted block is not there
pub missed : (block : List ℤ) (n : ℤ) (i : ℕ) → IsSorted int_cmp block → (IsNonDecreasingBy (λ y. ordering_index (int_cmp y n)) block → IsPartitionPoint (λ y. int_cmp y n ≡ Less) (λ y. int_cmp y n ≡ Greater) block i) → false ≡ holds_one block n
missed block n i sorted parts =
    let point = parts (searchable_from_sorted int_cmp_total (λ y. y) block n sorted) in
    not_there (holds_one block n) _ (among block n) (λ at. nowhere at.0 at.1 at.2 point)
  where
    apart_at : (o : Ordering) → o ≡ Equal → o ≡ Less → ⊥
    apart_at o e f = absurd cc

    apart_after : (o : Ordering) → o ≡ Equal → o ≡ Greater → ⊥
    apart_after o e f = absurd cc

    nowhere : (k : ℕ) → k < length block → HoldsAt (λ y. int_cmp y n ≡ Equal) block k → IsPartitionPoint (λ y. int_cmp y n ≡ Less) (λ y. int_cmp y n ≡ Greater) block i → ⊥
    nowhere k below here point = elim (cases_lt k i) [
      | inl before ↦ apart_at _ (here n) (point.0 k n (omega arith) before)
      | inr after ↦ apart_after _ (here n) (point.1 k n after below)
    ]

-- ---- numbers among others

pub ordered : (all front block rest : List ℤ) → IsTaken all front rest → IsPermutation front block → IsSorted int_cmp block → IsOrdered all block rest
ordered all front block rest taken moved sorted = record {
  front = front;
  split = taken.split;
  moved = moved;
  sorted = sorted;
  fewer = omega (arith, ap (λ (l : List ℤ). length l) taken.split, length-append front rest, length_permutation front block moved);
  ends = λ e. let empty = no_block front block moved e in taken.split ∙ rw (empty, taken.ends empty) refl;
}

one_covered : (b c d : Bool) (e f : Bool) → d ≡ (b || c) → e ≡ f → (d && e) ≡ cond b f (c && f)
one_covered true c d e f is same = rw (is, same) refl
one_covered false c d e f is same = rw (is, same) refl

pushed : (b : Bool) (p : ℤ → Bool) (x : ℤ) (xs : List ℤ) → cond b (all p xs) (p x && all p xs) ≡ all p (cond b xs (x ∷ xs))
pushed true p x xs = refl
pushed false p x xs = refl

-- what is not in the block must be in the rest
pub covered : {whole block rest slice : List ℤ} (xs : List ℤ) → IsOrdered whole block rest → slice ≡ block → all (holds_one whole) xs ≡ all (holds_one rest) (without slice xs)
covered {block = block} {rest = rest} {slice = slice} [] o same = refl
covered {whole = whole} {block = block} {rest = rest} {slice = slice} (x ∷ xs) o same =
    let front = o.front in
    let here : holds_one whole x ≡ (holds_one slice x || holds_one rest x) = rw (o.split, has_append (λ held. int_eq held x) front rest, has_moved (λ held. int_eq held x) front block o.moved, same) refl in
    one_covered (holds_one slice x) (holds_one rest x) (holds_one whole x) (all (holds_one whole) xs) (all (holds_one rest) (without slice xs)) here (covered xs o same)
    ∙ pushed (holds_one slice x) (holds_one rest) x (without slice xs)

pub all_append : (p : ℤ → Bool) (xs ys : List ℤ) → all p (xs ++ ys) ≡ (all p xs && all p ys)
all_append p [] ys = refl
all_append p (x ∷ xs) ys = ap (λ b. p x && b) (all_append p xs ys) ∙ and_assoc (p x) (all p xs) (all p ys)
  where
    and_assoc : (a b c : Bool) → (a && (b && c)) ≡ ((a && b) && c)
    and_assoc true b c = refl
    and_assoc false b c = refl

-- a number that is left has none to be
pub none_left : (whole block xs : List ℤ) → (block ≡ [] → whole ≡ []) → length block ≡ 0 → 0 < length xs → false ≡ all (holds_one whole) xs
none_left whole block [] ends none some = absurd (omega (arith, some))
none_left whole [] (x ∷ xs) ends none some = rw (ends refl) refl
none_left whole (b ∷ block) (x ∷ xs) ends none some = absurd (omega (arith, none))

-- one number more was held against the block
pub kept_more : (b : Bool) (block kept xs ys : List ℤ) (x : ℤ) → b ≡ holds_one block x → kept ++ without block (x ∷ xs) ≡ ys → cond b kept (kept ++ x ∷ []) ++ without block xs ≡ ys
kept_more true block kept xs ys x is e = (rw (← is) at e)
kept_more false block kept xs ys x is e = append_assoc kept (x ∷ []) (without block xs) ∙ (rw (← is) at e)

pub not_all : (p : ℤ → Bool) (whole front rest : List ℤ) → whole ≡ front ++ rest → false ≡ all p front → false ≡ all p whole
not_all p whole front rest split none = rw (split, all_append p front rest, ← none) refl

pub still_all : (p : ℤ → Bool) (whole front rest : List ℤ) → whole ≡ front ++ rest → true ≡ all p front → all p rest ≡ all p whole
still_all p whole front rest split each = rw (split, all_append p front rest, ← each) refl
