-- Lists by rising id are equal where they hold the same at each id.
use Rattle.std.proofs.Common.{◌≡◌, ℕ, ◌<◌, Bool, true, false, cond, ◌&&◌, List, [], ◌∷◌, Option, Some, None, refl, sym, ap, ap₂, ◌∙◌, inl, inr, arith, ◌==◌, nat_lt}
use Rattle.std.proofs.lemmas.Bool.{cases_Bool, and_parts, and_from, eqb-true, eqb-false, eq-eqb, ne_eqb, ltb-true, ltb-false, lt-ltb}
use Rattle.xt_shapes.specs.Lists.{all}
use Rattle.xcdr_model.specs.Keys.{by_id}
use Rattle.shape_laws.proofs.Rules.{left, right}

abbrev pub Entries : Type 0 → Type 0
Entries A = List (ℕ × A)

abbrev pub lookup : {A : Type 0} → Entries A → ℕ → Option A
lookup [] id = None
lookup (x ∷ xs) id = cond (x.0 == id) (Some x.1) (lookup xs id)

abbrev pub past : {A : Type 0} → ℕ → Entries A → Bool
past n xs = all (λ y. nat_lt n y.0) xs

abbrev pub rising : {A : Type 0} → Entries A → Bool
rising [] = true
rising (x ∷ xs) = past x.0 xs && rising xs

pub none_parts : {A : Type 0} (b : Bool) (v : A) (o : Option A) → cond b (Some v) o ≡ None → (b ≡ false) × (o ≡ None)
none_parts true v o e = absurd cc
none_parts false v o e = (refl, e)

swap_cond : {A : Type 0} (a b : Bool) (x y o : Option A) → (a ≡ true → b ≡ true → ⊥) → cond a x (cond b y o) ≡ cond b y (cond a x o)
swap_cond true true x y o f = absurd (f refl refl)
swap_cond true false x y o f = refl
swap_cond false b x y o f = refl

pub insert_at : {A : Type 0} (x : ℕ × A) (ys : Entries A) (id : ℕ) → lookup ys x.0 ≡ None → lookup (by_id x ys) id ≡ cond (x.0 == id) (Some x.1) (lookup ys id)
insert_at {A = A} x [] id n = refl
insert_at {A = A} x (y ∷ ys) id n =
    let p = none_parts (y.0 == x.0) y.1 (lookup ys x.0) n in
    elim (cases_Bool (nat_lt x.0 y.0)) [
      | inl s ↦ ap (λ (c : Bool). lookup (cond c (x ∷ y ∷ ys) (y ∷ by_id x ys)) id) s
      | inr s ↦ ap (λ (c : Bool). lookup (cond c (x ∷ y ∷ ys) (y ∷ by_id x ys)) id) s
          ∙ ap (λ (o : Option A). cond (y.0 == id) (Some y.1) o) (insert_at x ys id p.1)
          ∙ swap_cond (y.0 == id) (x.0 == id) (Some y.1) (Some x.1) (lookup ys id) (λ a b. eqb-false y.0 x.0 p.0 (eqb-true y.0 id a ∙ sym (eqb-true x.0 id b)))
    ]

insert_past : {A : Type 0} (m : ℕ) (x : ℕ × A) (ys : Entries A) → nat_lt m x.0 ≡ true → past m ys ≡ true → past m (by_id x ys) ≡ true
insert_past {A = A} m x [] e f = and_from (nat_lt m x.0) true e refl
insert_past {A = A} m x (y ∷ ys) e f = elim (cases_Bool (nat_lt x.0 y.0)) [
  | inl s ↦ ap (λ (c : Bool). past m (cond c (x ∷ y ∷ ys) (y ∷ by_id x ys))) s ∙ and_from (nat_lt m x.0) (past m (y ∷ ys)) e f
  | inr s ↦ ap (λ (c : Bool). past m (cond c (x ∷ y ∷ ys) (y ∷ by_id x ys))) s ∙ and_from (nat_lt m y.0) (past m (by_id x ys)) (left (nat_lt m y.0) (past m ys) f) (insert_past m x ys e (right (nat_lt m y.0) (past m ys) f))
]

past_less : {A : Type 0} (m n : ℕ) (xs : Entries A) → m < n → past n xs ≡ true → past m xs ≡ true
past_less m n [] l f = refl
past_less m n (x ∷ xs) l f = and_from (nat_lt m x.0) (past m xs) (lt-ltb m x.0 (omega (arith, l, ltb-true n x.0 (left (nat_lt n x.0) (past n xs) f)))) (past_less m n xs l (right (nat_lt n x.0) (past n xs) f))

none_past : {A : Type 0} (n : ℕ) (xs : Entries A) → past n xs ≡ true → lookup xs n ≡ None
none_past n [] f = refl
none_past n (x ∷ xs) f =
    let l = ltb-true n x.0 (left (nat_lt n x.0) (past n xs) f) in
    ap (λ (c : Bool). cond c (Some x.1) (lookup xs n)) (ne_eqb x.0 n (λ z. omega (arith, l, z))) ∙ none_past n xs (right (nat_lt n x.0) (past n xs) f)

pub insert_rising : {A : Type 0} (x : ℕ × A) (ys : Entries A) → rising ys ≡ true → lookup ys x.0 ≡ None → rising (by_id x ys) ≡ true
insert_rising x [] r n = refl
insert_rising x (y ∷ ys) r n =
    let p = none_parts (y.0 == x.0) y.1 (lookup ys x.0) n in
    let q = and_parts (past y.0 ys) (rising ys) r in
    elim (cases_Bool (nat_lt x.0 y.0)) [
      | inl s ↦ ap (λ (c : Bool). rising (cond c (x ∷ y ∷ ys) (y ∷ by_id x ys))) s ∙ and_from (past x.0 (y ∷ ys)) (rising (y ∷ ys)) (and_from (nat_lt x.0 y.0) (past x.0 ys) s (past_less x.0 y.0 ys (ltb-true x.0 y.0 s) q.0)) r
      | inr s ↦ (let apart = eqb-false y.0 x.0 p.0 in
          let below : y.0 < x.0 = omega (arith, ltb-false x.0 y.0 s, apart) in
          ap (λ (c : Bool). rising (cond c (x ∷ y ∷ ys) (y ∷ by_id x ys))) s ∙ and_from (past y.0 (by_id x ys)) (rising (by_id x ys)) (insert_past y.0 x ys (lt-ltb y.0 x.0 below) q.0) (insert_rising x ys q.1 p.1))
    ]

-- what a list holds at its first id, and what another that begins later doesn't
at_first : {A : Type 0} (x : ℕ × A) (xs : Entries A) → lookup (x ∷ xs) x.0 ≡ Some x.1
at_first x xs = ap (λ (c : Bool). cond c (Some x.1) (lookup xs x.0)) (eq-eqb x.0 x.0 refl)

before : {A : Type 0} (n : ℕ) (y : ℕ × A) (ys : Entries A) → n < y.0 → past y.0 ys ≡ true → lookup (y ∷ ys) n ≡ None
before n y ys l f = none_past n (y ∷ ys) (and_from (nat_lt n y.0) (past n ys) (lt-ltb n y.0 l) (past_less n y.0 ys l f))

abbrev Alike : {A : Type 0} → Entries A → Entries A → Type 0
Alike xs ys = (id : ℕ) → lookup xs id ≡ lookup ys id

tails : {A : Type 0} (x y : ℕ × A) (xs ys : Entries A) → x.0 ≡ y.0 → past x.0 xs ≡ true → past y.0 ys ≡ true → Alike (x ∷ xs) (y ∷ ys) → Alike xs ys
tails x y xs ys e f g a id = elim (cases_Bool (x.0 == id)) [
  | inl z ↦ (let at_x = eqb-true x.0 id z in
      ap (lookup xs) (sym at_x) ∙ none_past x.0 xs f ∙ sym (ap (lookup ys) (sym at_x ∙ e) ∙ none_past y.0 ys g))
  | inr z ↦ (let z2 : (y.0 == id) ≡ false = ap (λ (n : ℕ). n == id) (sym e) ∙ z in
      sym (ap (λ (c : Bool). cond c (Some x.1) (lookup xs id)) z) ∙ a id ∙ ap (λ (c : Bool). cond c (Some y.1) (lookup ys id)) z2)
]

pub same_rising : {A : Type 0} (xs ys : Entries A) → rising xs ≡ true → rising ys ≡ true → Alike xs ys → xs ≡ ys
same_rising {A = A} [] [] r s a = refl
same_rising {A = A} [] (y ∷ ys) r s a = (let f : None ≡ Some y.1 = a y.0 ∙ at_first y ys in absurd cc)
same_rising {A = A} (x ∷ xs) [] r s a = (let f : Some x.1 ≡ None = sym (at_first x xs) ∙ a x.0 in absurd cc)
same_rising {A = A} (x ∷ xs) (y ∷ ys) r s a =
    let p = and_parts (past x.0 xs) (rising xs) r in
    let q = and_parts (past y.0 ys) (rising ys) s in
    elim (cases_Bool (nat_lt x.0 y.0)) [
      | inl l ↦ (let f : Some x.1 ≡ None = sym (at_first x xs) ∙ a x.0 ∙ before x.0 y ys (ltb-true x.0 y.0 l) q.0 in absurd cc)
      | inr l ↦ elim (cases_Bool (nat_lt y.0 x.0)) [
        | inl m ↦ (let f : None ≡ Some y.1 = sym (before y.0 x xs (ltb-true y.0 x.0 m) p.0) ∙ a y.0 ∙ at_first y ys in absurd cc)
        | inr m ↦ (let e : x.0 ≡ y.0 = omega (arith, ltb-false x.0 y.0 l, ltb-false y.0 x.0 m) in
            let f : Some x.1 ≡ Some y.1 = sym (at_first x xs) ∙ a x.0 ∙ ap (lookup (y ∷ ys)) e ∙ at_first y ys in
            let g : x.1 ≡ y.1 = cc in
            let head : x ≡ y = λ i. (e i, g i) in
            ap₂ (λ (z : ℕ × A) (zs : Entries A). z ∷ zs) head (same_rising xs ys p.1 q.1 (tails x y xs ys e p.0 q.0 a)))
      ]
    ]
