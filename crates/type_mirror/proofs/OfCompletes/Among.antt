-- Identifiers among others, and lists in which none comes twice.
use Rattle.std.proofs.Common.{◌≡◌, ◌⊎◌, ◌≤◌, Bool, true, false, ◌||◌, List, [], ◌∷◌, ◌++◌, length, inl, inr, refl, sym, ap, ◌∙◌}
use Rattle.std.specs.Cmp.{IsEquivalence}
use Rattle.std.specs.List.{IsDistinct, AllByRecursion, list_any}
use Rattle.std.proofs.lemmas.Map.Made.{length-le_from_is_member}
use Rattle.type_trees.specs.declared.types.HashId.{HashId}
use Rattle.type_trees.specs.Ids.{same_id}
use Rattle.type_trees.proofs.SameIds.{same_id_tells, same_id_itself, same_is}
use Rattle.type_object.specs.References.{is_among}

-- each of these is among all of those
abbrev pub Within : List HashId → List HashId → Type 0
Within some all = (id : HashId) → is_among id some ≡ true → is_among id all ≡ true

-- none comes twice
abbrev pub Distinct : List HashId → Type 0
Distinct [] = Unit {0}
Distinct (id ∷ ids) = (is_among id ids ≡ false) × Distinct ids

or_true : (b : Bool) → b || true ≡ true
or_true true = refl
or_true false = refl

or_false : (a b : Bool) → a || b ≡ true → a ≡ false → b ≡ true
or_false a b h e = sym (ap (λ (c : Bool). c || b) e) ∙ h

neither : (a b : Bool) → a || b ≡ false → (a ≡ false) × (b ≡ false)
neither true b e = absurd (cc e)
neither false b e = (refl, e)

pub never : (b : Bool) → b ≡ true → b ≡ false → ⊥
never b t f = let apart : true ≡ false = sym t ∙ f in cc apart

pub not_true : (b : Bool) → (b ≡ true → ⊥) → b ≡ false
not_true true h = absurd (h refl)
not_true false h = refl

-- ---- one more in front

pub among_first : (id : HashId) (ids : List HashId) → is_among id (id ∷ ids) ≡ true
among_first id ids = ap (λ (b : Bool). b || is_among id ids) (same_id_itself id)

pub among_later : (j id : HashId) (ids : List HashId) → is_among j ids ≡ true → is_among j (id ∷ ids) ≡ true
among_later j id ids h = ap (λ (b : Bool). same_id j id || b) h ∙ or_true (same_id j id)

pub among_cases : (j id : HashId) (ids : List HashId) → is_among j (id ∷ ids) ≡ true → (j ≡ id) ⊎ (is_among j ids ≡ true)
among_cases j id ids h = elim (same_id_tells j id) [ inl t ↦ inl t.1 | inr t ↦ inr (or_false (same_id j id) (is_among j ids) h t.0) ]

-- ---- two lists

pub among_left : (j : HashId) (xs ys : List HashId) → is_among j xs ≡ true → is_among j (xs ++ ys) ≡ true
among_left j [] ys h = absurd (cc h)
among_left j (x ∷ xs) ys h = elim (among_cases j x xs h) [
  | inl e ↦ ap (λ i. is_among i (x ∷ (xs ++ ys))) e ∙ among_first x (xs ++ ys)
  | inr t ↦ among_later j x (xs ++ ys) (among_left j xs ys t)
]

pub among_right : (j : HashId) (xs ys : List HashId) → is_among j ys ≡ true → is_among j (xs ++ ys) ≡ true
among_right j [] ys h = h
among_right j (x ∷ xs) ys h = among_later j x (xs ++ ys) (among_right j xs ys h)

pub among_either : (j : HashId) (xs ys : List HashId) → is_among j (xs ++ ys) ≡ true → (is_among j xs ≡ true) ⊎ (is_among j ys ≡ true)
among_either j [] ys h = inr h
among_either j (x ∷ xs) ys h = elim (among_cases j x (xs ++ ys) h) [
  | inl e ↦ inl (ap (λ i. is_among i (x ∷ xs)) e ∙ among_first x xs)
  | inr t ↦ elim (among_either j xs ys t) [ inl a ↦ inl (among_later j x xs a) | inr b ↦ inr b ]
]

pub within_both : (xs ys all : List HashId) → Within xs all → Within ys all → Within (xs ++ ys) all
within_both xs ys all p q j h = elim (among_either j xs ys h) [ inl a ↦ p j a | inr b ↦ q j b ]

-- ---- none comes twice

pub distinct_both : (xs ys : List HashId) → Distinct xs → Distinct ys → ((j : HashId) → is_among j ys ≡ true → is_among j xs ≡ false) → Distinct (xs ++ ys)
distinct_both [] ys p q apart = q
distinct_both (x ∷ xs) ys p q apart = (
  not_true (is_among x (xs ++ ys)) (λ h. elim (among_either x xs ys h) [ inl a ↦ never (is_among x xs) a p.0 | inr b ↦ never (is_among x (x ∷ xs)) (among_first x xs) (apart x b) ]),
  distinct_both xs ys p.1 q (λ j h. not_true (is_among j xs) (λ a. never (is_among j (x ∷ xs)) (among_later j x xs a) (apart j h))),
)

pub distinct_more : (xs : List HashId) (id : HashId) → Distinct xs → is_among id xs ≡ false → Distinct (xs ++ id ∷ [])
distinct_more xs id p new = distinct_both xs (id ∷ []) p (refl, tt) (λ j h. elim (among_cases j id [] h) [ inl e ↦ ap (λ i. is_among i xs) e ∙ new | inr n ↦ absurd (cc n) ])

-- ---- as many at most

turned : (x y : HashId) (b c : Bool) → same_id x y ≡ b → same_id y x ≡ c → b ≡ c
turned x y true true e f = refl
turned x y true false e f = absurd (never (same_id y x) (ap (same_id y) (same_is x y e) ∙ same_id_itself y) f)
turned x y false true e f = absurd (never (same_id x y) (ap (same_id x) (same_is y x f) ∙ same_id_itself x) e)
turned x y false false e f = refl

ids_lawful : IsEquivalence same_id
ids_lawful = record { refl = same_id_itself; symm = λ x y. turned x y (same_id x y) (same_id y x) refl refl; congr = λ x y z e. ap (λ v. same_id v z) (same_is x y e) }

any_among : (id : HashId) (ids : List HashId) → list_any (same_id id) ids ≡ is_among id ids
any_among id [] = refl
any_among id (x ∷ ids) = ap (λ (b : Bool). same_id id x || b) (any_among id ids)

others : (id : HashId) (ids : List HashId) → is_among id ids ≡ false → AllByRecursion (λ y. same_id id y ≡ false) ids
others id [] new = tt
others id (x ∷ ids) new = let n = neither (same_id id x) (is_among id ids) new in (n.0, others id ids n.1)

are_distinct : (ids : List HashId) → Distinct ids → IsDistinct same_id ids
unfolding IsDistinct
are_distinct [] p = tt
are_distinct (x ∷ ids) p = (others x ids p.0, are_distinct ids p.1)

pub no_more : (xs ys : List HashId) → Distinct xs → Within xs ys → length xs ≤ length ys
no_more xs ys p within = length-le_from_is_member ids_lawful xs ys (are_distinct xs p) (λ q h. any_among q ys ∙ within q (sym (any_among q xs) ∙ h))
