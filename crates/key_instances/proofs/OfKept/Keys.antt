-- The keys of several puts, and one put more.
use Rattle.std.proofs.Common.{◌≡◌, refl, sym, ap, ◌∙◌, ℕ, Bool, true, false, not, ◌&&◌, ◌||◌, List, [], ◌∷◌, ◌++◌, inl, inr, if◌then◌else◌}
use Rattle.std.proofs.lemmas.Bool.{cases_Bool, and_from, or_parts, both_ways}
use Rattle.std.specs.Cmp.Lexicographic.{same_text}
use Rattle.std.specs.Str.{bytes_eq}
use Rattle.std.proofs.lemmas.Cmp.{nat_list_eq_equiv}
use Rattle.key_instances.specs.kept.Kept.{PutsOf, is_among, keys_of, values_of}

pub same_bytes : (xs ys : List ℕ) → bytes_eq xs ys ≡ true → xs ≡ ys
same_bytes xs ys e = same_text xs ys (sym e)

pub own_bytes : (xs : List ℕ) → bytes_eq xs xs ≡ true
own_bytes xs = nat_list_eq_equiv.refl xs

pub turned_bytes : (xs ys : List ℕ) → bytes_eq xs ys ≡ bytes_eq ys xs
turned_bytes xs ys = nat_list_eq_equiv.symm xs ys

-- no key stands twice
abbrev pub apart : List (List ℕ) → Bool
apart [] = true
apart (k ∷ ks) = not (is_among k ks) && apart ks

-- keys that were there before are not taken again
pub not_again : {V : Type 0} (before : List (List ℕ)) (ps : PutsOf V) (key : List ℕ) → is_among key before ≡ true → is_among key (keys_of before ps) ≡ false
not_again before [] key e = refl
not_again before (p ∷ ps) key e = elim (cases_Bool (is_among p.0 before)) [
  | inl y ↦ ap (λ (c : Bool). is_among key (if c then keys_of before ps else p.0 ∷ keys_of (p.0 ∷ before) ps)) y ∙ not_again before ps key e
  | inr n ↦ (let more : is_among key (p.0 ∷ before) ≡ true = ap (λ (c : Bool). bytes_eq p.0 key || c) e ∙ or_true (bytes_eq p.0 key) in
      ap (λ (c : Bool). is_among key (if c then keys_of before ps else p.0 ∷ keys_of (p.0 ∷ before) ps)) n
      ∙ ap (λ (c : Bool). c || is_among key (keys_of (p.0 ∷ before) ps)) (differs p.0 n) ∙ not_again (p.0 ∷ before) ps key more)
]
  where
    or_true : (b : Bool) → b || true ≡ true
    or_true true = refl
    or_true false = refl

    differs : (other : List ℕ) → is_among other before ≡ false → bytes_eq other key ≡ false
    differs other n = elim (cases_Bool (bytes_eq other key)) [
      | inl y ↦ absurd (both_ways (is_among other before) n (ap (λ (k : List ℕ). is_among k before) (same_bytes other key y) ∙ e))
      | inr m ↦ m
    ]

pub keys_apart : {V : Type 0} (before : List (List ℕ)) (ps : PutsOf V) → apart (keys_of before ps) ≡ true
keys_apart before [] = refl
keys_apart before (p ∷ ps) = elim (cases_Bool (is_among p.0 before)) [
  | inl y ↦ ap (λ (c : Bool). apart (if c then keys_of before ps else p.0 ∷ keys_of (p.0 ∷ before) ps)) y ∙ keys_apart before ps
  | inr n ↦ (let own : is_among p.0 (p.0 ∷ before) ≡ true = ap (λ (c : Bool). c || is_among p.0 before) (own_bytes p.0) in
      ap (λ (c : Bool). apart (if c then keys_of before ps else p.0 ∷ keys_of (p.0 ∷ before) ps)) n
      ∙ and_from (not (is_among p.0 (keys_of (p.0 ∷ before) ps))) (apart (keys_of (p.0 ∷ before) ps)) (ap not (not_again (p.0 ∷ before) ps p.0 own)) (keys_apart (p.0 ∷ before) ps))
]

-- with a key that may be new
abbrev with_key : List (List ℕ) → List ℕ → List (List ℕ) → List (List ℕ)
with_key before key ks = if is_among key before || is_among key ks then ks else ks ++ key ∷ []

-- one key more
pub keys_more : {V : Type 0} (before : List (List ℕ)) (ps : PutsOf V) (key : List ℕ) (v : V)
    → keys_of before (ps ++ (key, v) ∷ []) ≡ (if is_among key before || is_among key (keys_of before ps) then keys_of before ps else keys_of before ps ++ key ∷ [])
keys_more before [] key v = elim (cases_Bool (is_among key before)) [
  | inl y ↦ ap (λ (c : Bool). if c then [] else key ∷ []) y ∙ sym (ap (λ (c : Bool). if c || false then [] else key ∷ []) y)
  | inr n ↦ ap (λ (c : Bool). if c then [] else key ∷ []) n ∙ sym (ap (λ (c : Bool). if c || false then [] else key ∷ []) n)
]
keys_more before (p ∷ ps) key v = elim (cases_Bool (is_among p.0 before)) [
  | inl y ↦ ap (λ (c : Bool). if c then keys_of before (ps ++ (key, v) ∷ []) else p.0 ∷ keys_of (p.0 ∷ before) (ps ++ (key, v) ∷ [])) y ∙ keys_more before ps key v
      ∙ sym (ap (λ (c : Bool). with_key before key (if c then keys_of before ps else p.0 ∷ keys_of (p.0 ∷ before) ps)) y)
  | inr n ↦ ap (λ (c : Bool). if c then keys_of before (ps ++ (key, v) ∷ []) else p.0 ∷ keys_of (p.0 ∷ before) (ps ++ (key, v) ∷ [])) n
      ∙ ap (λ ks. p.0 ∷ ks) (keys_more (p.0 ∷ before) ps key v)
      ∙ turned (bytes_eq p.0 key) (is_among key before) (is_among key (keys_of (p.0 ∷ before) ps)) (keys_of (p.0 ∷ before) ps)
      ∙ sym (ap (λ (c : Bool). with_key before key (if c then keys_of before ps else p.0 ∷ keys_of (p.0 ∷ before) ps)) n)
]
  where
    turned : (a b d : Bool) (ks : List (List ℕ)) → p.0 ∷ (if (a || b) || d then ks else ks ++ key ∷ []) ≡ (if b || (a || d) then p.0 ∷ ks else (p.0 ∷ ks) ++ key ∷ [])
    turned true true d ks = refl
    turned true false d ks = refl
    turned false true d ks = refl
    turned false false true ks = refl
    turned false false false ks = refl

-- one value more
pub values_more : {V : Type 0} (ps : PutsOf V) (key other : List ℕ) (v : V) → values_of other (ps ++ (key, v) ∷ []) ≡ values_of other ps ++ (if bytes_eq key other then v ∷ [] else [])
values_more [] key other v = refl
values_more (p ∷ ps) key other v = by (bytes_eq p.0 other) (values_more ps key other v)
  where
    by : (c : Bool) → values_of other (ps ++ (key, v) ∷ []) ≡ values_of other ps ++ (if bytes_eq key other then v ∷ [] else [])
        → (if c then p.1 ∷ values_of other (ps ++ (key, v) ∷ []) else values_of other (ps ++ (key, v) ∷ [])) ≡ (if c then p.1 ∷ values_of other ps else values_of other ps) ++ (if bytes_eq key other then v ∷ [] else [])
    by true e = ap (λ vs. p.1 ∷ vs) e
    by false e = e

-- a key that never came has no values
pub none_of : {V : Type 0} (before : List (List ℕ)) (ps : PutsOf V) (key : List ℕ) → is_among key before ≡ false → is_among key (keys_of before ps) ≡ false → values_of key ps ≡ []
none_of before [] key b e = refl
none_of before (p ∷ ps) key b e = elim (cases_Bool (is_among p.0 before)) [
  | inl y ↦ ap (λ (c : Bool). if c then p.1 ∷ values_of key ps else values_of key ps) (differs p.0 y)
      ∙ none_of before ps key b (sym (ap (λ (c : Bool). is_among key (if c then keys_of before ps else p.0 ∷ keys_of (p.0 ∷ before) ps)) y) ∙ e)
  | inr n ↦ (let parts = or_parts (bytes_eq p.0 key) (is_among key (keys_of (p.0 ∷ before) ps)) (sym (ap (λ (c : Bool). is_among key (if c then keys_of before ps else p.0 ∷ keys_of (p.0 ∷ before) ps)) n) ∙ e) in
      ap (λ (c : Bool). if c then p.1 ∷ values_of key ps else values_of key ps) parts.0
      ∙ none_of (p.0 ∷ before) ps key (ap (λ (c : Bool). c || is_among key before) parts.0 ∙ b) parts.1)
]
  where
    differs : (other : List ℕ) → is_among other before ≡ true → bytes_eq other key ≡ false
    differs other y = elim (cases_Bool (bytes_eq other key)) [
      | inl z ↦ absurd (both_ways (is_among key before) b (ap (λ (k : List ℕ). is_among k before) (sym (same_bytes other key z)) ∙ y))
      | inr m ↦ m
    ]
