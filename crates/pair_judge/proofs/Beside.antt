-- Members of two structures or cases of two unions, side by side: the two at a place, and the walk over all.
use Rattle.std.proofs.Common.{◌≡◌, refl, sym, ap, ◌∙◌, ℕ, zero, suc, ◌+◌, ◌<◌, ◌≤◌, ◌==◌, List, [], ◌∷◌, length, map, drop, get_or, Bool, true, false, cond, ◌&&◌, Some, None, arith}
use Rattle.std.specs.List.{slice_get, zip}
use Rattle.std.proofs.lemmas.Bool.{and_parts}
use Rattle.std.proofs.lemmas.List.{length-map}
use Rattle.std.proofs.lemmas.Option.{slice_get-map}
use Rattle.xt_shapes.specs.Lists.{all}
use Rattle.xcdr_model.specs.Equivalence.{same_shape}
use Rattle.object_formats.specs.Objects.{Identifier}
use Rattle.pair_memo.specs.nodes.Seen.{See, Test}
use Rattle.pair_judge.specs.Beside.{Pair, pair, same_pair, both_pass, types_of}

-- ---- the two at a place

module _ {A : Type 0} where
  zip_count : (xs ys : List A) → length xs ≡ length ys → length (zip xs ys) ≡ length xs
  zip_count [] ys e = refl
  zip_count (x ∷ xs) [] e = sym e
  zip_count (x ∷ xs) (y ∷ ys) e = ap suc (zip_count xs ys (omega (arith, e)))

  pub zip_past_left : (xs ys : List A) (at : ℕ) → length xs ≤ at → slice_get (zip xs ys) at ≡ None
  zip_past_left [] ys at e = refl
  zip_past_left (x ∷ xs) [] at e = refl
  zip_past_left (x ∷ xs) (y ∷ ys) zero e = absurd (omega (arith, e))
  zip_past_left (x ∷ xs) (y ∷ ys) (suc at) e = zip_past_left xs ys at (omega (arith, e))

  pub zip_past_right : (xs ys : List A) (at : ℕ) → length ys ≤ at → slice_get (zip xs ys) at ≡ None
  zip_past_right [] ys at e = refl
  zip_past_right (x ∷ xs) [] at e = refl
  zip_past_right (x ∷ xs) (y ∷ ys) zero e = absurd (omega (arith, e))
  zip_past_right (x ∷ xs) (y ∷ ys) (suc at) e = zip_past_right xs ys at (omega (arith, e))

  pub zip_at : (xs ys : List A) (at : ℕ) (x y : A) → at < length xs → at < length ys → x ≡ get_or xs at x → y ≡ get_or ys at y → slice_get (zip xs ys) at ≡ Some (x, y)
  zip_at [] ys at x y p q is_x is_y = absurd (omega (arith, p))
  zip_at (a ∷ xs) [] at x y p q is_x is_y = absurd (omega (arith, q))
  zip_at (a ∷ xs) (b ∷ ys) zero x y p q is_x is_y = rw (is_x, is_y) refl
  zip_at (a ∷ xs) (b ∷ ys) (suc at) x y p q is_x is_y = zip_at xs ys at x y (omega (arith, p)) (omega (arith, q)) is_x is_y

pub ruleset zip_rules = (zip_past_left, zip_past_right, zip_at)

module _ {A B : Type 0} (f : A × A → B) where
  pub pair_count : (xs ys : List A) → length xs ≡ length ys → length (map f (zip xs ys)) ≡ length xs
  pair_count xs ys e = length-map (zip xs ys) f ∙ zip_count xs ys e

  pub pair_none : (xs ys : List A) (at : ℕ) → slice_get (zip xs ys) at ≡ None → slice_get (map f (zip xs ys)) at ≡ None
  pair_none xs ys at e = rw (slice_get-map f (zip xs ys) at, e) refl

  pub pair_some : (xs ys : List A) (at : ℕ) (p : A × A) → slice_get (zip xs ys) at ≡ Some p → slice_get (map f (zip xs ys)) at ≡ Some (f p)
  pair_some xs ys at p e = rw (slice_get-map f (zip xs ys) at, e) refl

pub ruleset pair_rules = (pair_count, pair_none, pair_some)

-- ---- the walk

alike_is : {X : Type 0} (b : Bool) (x y : X) → Some y ≡ cond b (Some x) None → (b ≡ true) × (y ≡ x)
alike_is true x y e = (refl, grind arith)
alike_is false x y e = grind arith

unlike_is : {X : Type 0} (b : Bool) (x : X) → None ≡ cond b (Some x) None → b ≡ false
unlike_is true x e = grind arith
unlike_is false x e = refl

pub even_is : (even : Bool) (n m : ℕ) → Some n ≡ cond even (Some m) None → (even ≡ true) × (n ≡ m)
even_is even n m e = alike_is even m n e

module _ (see : See) where
  pub unlike_at : (ps : List Pair) (at : ℕ) → at < length ps → None ≡ types_of (slice_get ps at) → all (same_pair see) (drop at ps) ≡ false
  unlike_at [] at lt e = absurd (omega (arith, lt))
  unlike_at (p ∷ ps) zero lt e = rw (unlike_is p.0 (p.1, p.2) e) refl
  unlike_at (p ∷ ps) (suc at) lt e = unlike_at ps at (omega (arith, lt)) e

  pub alike_at : (ps : List Pair) (at : ℕ) (l r : Identifier) → Some (l, r) ≡ types_of (slice_get ps at) → all (same_pair see) (drop at ps) ≡ (same_shape (see l) (see r) && all (same_pair see) (drop (at + 1) ps))
  alike_at [] at l r e = grind arith
  alike_at (p ∷ ps) zero l r e = let h = alike_is p.0 (p.1, p.2) (l, r) e in rw (h.0, ← ap (λ x. x.0) h.1, ← ap (λ x. x.1) h.1) refl
  alike_at (p ∷ ps) (suc at) l r e = let next : (suc at + 1) ≡ suc (at + 1) = omega arith in rw next (alike_at ps at l r e)

pub passes_at : (test : Test) (ps : List Pair) (at : ℕ) (l r : Identifier) → all (both_pass test) ps ≡ true → Some (l, r) ≡ types_of (slice_get ps at) → (test l ≡ true) × (test r ≡ true)
passes_at test [] at l r h e = grind arith
passes_at test (p ∷ ps) zero l r h e =
    let is = (alike_is p.0 (p.1, p.2) (l, r) e).1 in
    let both = and_parts (test p.1) (test p.2) (and_parts (test p.1 && test p.2) (all (both_pass test) ps) h).0 in
    (ap (λ x. test x.0) is ∙ both.0, ap (λ x. test x.1) is ∙ both.1)
passes_at test (p ∷ ps) (suc at) l r h e = passes_at test ps at l r (and_parts (both_pass test p) (all (both_pass test) ps) h).1 e

-- ---- two lists that are walked

and_swap : (a b c : Bool) → (a && (b && c)) ≡ (b && (a && c))
and_swap true b c = refl
and_swap false true c = refl
and_swap false false c = refl

same_suc : (n m : ℕ) → (suc n == suc m) ≡ (n == m)
same_suc n m = grind arith

zero_suc : (n : ℕ) → (0 == suc n) ≡ false
zero_suc n = grind arith

suc_zero : (n : ℕ) → (suc n == 0) ≡ false
suc_zero n = grind arith

module _ {A H : Type 0} (alike : H → H → Bool) (view : A → H × Identifier) where
  -- a comparison one by one is the walk
  pub walked : (see : See) (same : List A → List A → Bool) → same [] [] ≡ true → ((y : A) (ys : List A) → same [] (y ∷ ys) ≡ false) → ((x : A) (xs : List A) → same (x ∷ xs) [] ≡ false)
      → ((x y : A) (xs ys : List A) → same (x ∷ xs) (y ∷ ys) ≡ (same_pair see (pair alike view (x, y)) && same xs ys))
      → (xs ys : List A) → ((length xs == length ys) && all (same_pair see) (map (pair alike view) (zip xs ys))) ≡ same xs ys
  walked see same a b c d [] [] = sym a
  walked see same a b c d [] (y ∷ ys) = rw (zero_suc (length ys)) (sym (b y ys))
  walked see same a b c d (x ∷ xs) [] = rw (suc_zero (length xs)) (sym (c x xs))
  walked see same a b c d (x ∷ xs) (y ∷ ys) =
      let first : Bool = same_pair see (pair alike view (x, y)) in
      let even : Bool = length xs == length ys in
      let others : Bool = all (same_pair see) (map (pair alike view) (zip xs ys)) in
      rw (same_suc (length xs) (length ys)) (and_swap even first others ∙ ap (λ r. first && r) (walked see same a b c d xs ys) ∙ sym (d x y xs ys))

  pub both_lists_pass : (test : Test) (xs ys : List A) → all (λ m. test m.1) (map view xs) ≡ true → all (λ m. test m.1) (map view ys) ≡ true → all (both_pass test) (map (pair alike view) (zip xs ys)) ≡ true
  both_lists_pass test [] ys h k = refl
  both_lists_pass test (x ∷ xs) [] h k = refl
  both_lists_pass test (x ∷ xs) (y ∷ ys) h k =
      let a = and_parts (test (view x).1) (all (λ m. test m.1) (map view xs)) h in
      let b = and_parts (test (view y).1) (all (λ m. test m.1) (map view ys)) k in
      rw (a.0, b.0) (both_lists_pass test xs ys a.1 b.1)
