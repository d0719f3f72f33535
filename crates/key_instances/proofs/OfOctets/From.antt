-- The entries of a rising list from an id on, and its next one.
use Rattle.std.proofs.Common.{◌≡◌, ℕ, suc, ◌≤◌, ◌<◌, Bool, true, cond, ◌==◌, nat_le, nat_lt, [], ◌∷◌, Some, None, refl, sym, ap, ap₂, ◌∙◌, inl, inr, arith}
use Rattle.std.proofs.lemmas.Bool.{cases_Bool, cases_lt, and_parts, ltb-true, le-leb, lt-leb, eqb-true, ne_eqb, eq-eqb}
use Rattle.shape_laws.proofs.KeySort.{Entries, lookup, past, rising}

module _ {A : Type 0} where
  abbrev pub from : ℕ → Entries A → Entries A
  from n [] = []
  from n (x ∷ xs) = cond (nat_le n x.0) (x ∷ from n xs) (from n xs)

  -- all of them are from there on
  all_from : (n m : ℕ) (xs : Entries A) → m ≤ suc n → past n xs ≡ true → from m xs ≡ xs
  all_from n m [] le p = refl
  all_from n m (x ∷ xs) le p =
      let q = and_parts (nat_lt n x.0) (past n xs) p in
      ap (λ (b : Bool). cond b (x ∷ from m xs) (from m xs)) (le-leb m x.0 (omega (arith, le, ltb-true n x.0 q.0))) ∙ ap (λ (ys : Entries A). x ∷ ys) (all_from n m xs le q.1)

  past_lookup : (n : ℕ) (xs : Entries A) (id : ℕ) (a : A) → past n xs ≡ true → lookup xs id ≡ Some a → n < id
  past_lookup n [] id a p e = absurd cc
  past_lookup n (x ∷ xs) id a p e =
      let q = and_parts (nat_lt n x.0) (past n xs) p in
      elim (cases_Bool (x.0 == id)) [
        | inl y ↦ omega (arith, ltb-true n x.0 q.0, eqb-true x.0 id y)
        | inr m ↦ past_lookup n xs id a q.1 (sym (ap (λ (b : Bool). cond b (Some x.1) (lookup xs id)) m) ∙ e)
      ]

  some_none : (a : A) → Some a ≡ None → ⊥
  some_none a e = absurd cc

  -- an entry of that id is not the first one
  skip : (x : ℕ × A) (xs : Entries A) (id : ℕ) → x.0 < id → lookup (x ∷ xs) id ≡ lookup xs id
  skip x xs id below = ap (λ (b : Bool). cond b (Some x.1) (lookup xs id)) (ne_eqb x.0 id (λ e. omega (arith, e, below)))

  left_out : (n : ℕ) (x : ℕ × A) (xs : Entries A) → x.0 < n → from n (x ∷ xs) ≡ from n xs
  left_out n x xs below = ap (λ (b : Bool). cond b (x ∷ from n xs) (from n xs)) (lt-leb n x.0 below)

  taken : (n : ℕ) (x : ℕ × A) (xs : Entries A) → n ≤ x.0 → from n (x ∷ xs) ≡ x ∷ from n xs
  taken n x xs late = ap (λ (b : Bool). cond b (x ∷ from n xs) (from n xs)) (le-leb n x.0 late)

  -- the first from n on is the one with the least id
  pub next_from : (xs : Entries A) (n id : ℕ) (a : A) → rising xs ≡ true → lookup xs id ≡ Some a → n ≤ id → ((j : ℕ) → n ≤ j → j < id → lookup xs j ≡ None) → from n xs ≡ (id, a) ∷ from (suc id) xs
  next_from [] n id a r e late least = absurd cc
  next_from (x ∷ xs) n id a r e late least =
      let p = and_parts (past x.0 xs) (rising xs) r in
      elim (cases_lt x.0 n) [
        | inl below ↦ left_out n x xs below ∙ next_from xs n id a p.1 (sym (skip x xs id (omega (arith, below, late))) ∙ e) late (λ j l b. sym (skip x xs j (omega (arith, below, l))) ∙ least j l b) ∙ ap (λ (ys : Entries A). (id, a) ∷ ys) (sym (left_out (suc id) x xs (omega (arith, below, late))))
        | inr there ↦ elim (cases_Bool (x.0 == id)) [
          | inl y ↦ (let same : x.0 ≡ id = eqb-true x.0 id y in
              let value : Some x.1 ≡ Some a = sym (ap (λ (b : Bool). cond b (Some x.1) (lookup xs id)) y) ∙ e in
              let own : x.1 ≡ a = cc in
              taken n x xs there ∙ ap₂ (λ (z : ℕ × A) (ys : Entries A). z ∷ ys) (ap₂ (λ (k : ℕ) (b : A). (k, b)) same own) (all_from x.0 n xs (omega (arith, there)) p.0 ∙ sym (all_from x.0 (suc id) xs (omega (arith, same)) p.0)) ∙ ap (λ (ys : Entries A). (id, a) ∷ ys) (sym (left_out (suc id) x xs (omega (arith, same)))))
          | inr m ↦ (let later : x.0 < id = past_lookup x.0 xs id a p.0 (sym (ap (λ (b : Bool). cond b (Some x.1) (lookup xs id)) m) ∙ e) in
              let found : lookup (x ∷ xs) x.0 ≡ Some x.1 = ap (λ (b : Bool). cond b (Some x.1) (lookup xs x.0)) (eq-eqb x.0 x.0 refl) in
              absurd (some_none x.1 (sym found ∙ least x.0 there later)))
        ]
      ]

  -- none are left
  pub none_from : (xs : Entries A) (n : ℕ) → ((j : ℕ) → n ≤ j → lookup xs j ≡ None) → from n xs ≡ []
  none_from [] n none = refl
  none_from (x ∷ xs) n none = elim (cases_lt x.0 n) [
    | inl below ↦ left_out n x xs below ∙ none_from xs n (λ j l. sym (skip x xs j (omega (arith, below, l))) ∙ none j l)
    | inr there ↦ (let found : lookup (x ∷ xs) x.0 ≡ Some x.1 = ap (λ (b : Bool). cond b (Some x.1) (lookup xs x.0)) (eq-eqb x.0 x.0 refl) in
        absurd (some_none x.1 (sym found ∙ none x.0 there)))
  ]

  -- all are left at first
  pub from_first : (xs : Entries A) → from 0 xs ≡ xs
  from_first [] = refl
  from_first (x ∷ xs) = taken 0 x xs (omega arith) ∙ ap (λ (ys : Entries A). x ∷ ys) (from_first xs)
