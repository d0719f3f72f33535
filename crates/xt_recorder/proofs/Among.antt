-- What is among identifiers, and what holds of each of them.
use Rattle.std.proofs.Common.{◌≡◌, Bool, true, false, cond, ◌||◌, List, [], ◌∷◌, ◌++◌, inl, inr, ◌⊎◌, refl, sym, ap, subst, ◌∙◌}
use Rattle.std.specs.Prelude.{All}
use Rattle.std.proofs.lemmas.Bool.{cases_Bool}
use Rattle.std.proofs.lemmas.List.Elements.{All-nil, All-cons, All-head, All-tail}
use Rattle.type_trees.specs.declared.types.HashId.{HashId}
use Rattle.type_trees.specs.Ids.{same_id}
use Rattle.type_trees.proofs.SameIds.{same_is, same_id_itself}
use Rattle.object_formats.specs.Objects.{Object}
use Rattle.type_object.specs.References.{is_among, in_order, once, references}

-- it holds of each that is among them
abbrev pub AllIn : (HashId → Type 0) → List HashId → Type 0
AllIn P ids = (r : HashId) → is_among r ids ≡ true → P r

either_is : (a b : Bool) → (a || b) ≡ true → (a ≡ true) ⊎ (b ≡ true)
either_is true b e = inl refl
either_is false b e = inr e

or_second : (a b : Bool) → b ≡ true → (a || b) ≡ true
or_second true b e = refl
or_second false b e = e

pub itself_in : (x : HashId) (xs : List HashId) → is_among x (x ∷ xs) ≡ true
itself_in x xs = ap (λ b. b || is_among x xs) (same_id_itself x)

pub later_in : (r x : HashId) (xs : List HashId) → is_among r xs ≡ true → is_among r (x ∷ xs) ≡ true
later_in r x xs m = or_second (same_id r x) (is_among r xs) m

-- the first, or one behind it
pub first_or_later : (r x : HashId) (xs : List HashId) → is_among r (x ∷ xs) ≡ true → (r ≡ x) ⊎ (is_among r xs ≡ true)
first_or_later r x xs m = elim (either_is (same_id r x) (is_among r xs) m) [ inl e ↦ inl (same_is r x e) | inr e ↦ inr e ]

pub in_first : (r : HashId) (a b : List HashId) → is_among r a ≡ true → is_among r (a ++ b) ≡ true
in_first r [] b m = absurd (cc m)
in_first r (x ∷ a) b m = elim (first_or_later r x a m) [
  | inl e ↦ subst (λ k. is_among k (x ∷ (a ++ b)) ≡ true) (sym e) (itself_in x (a ++ b))
  | inr e ↦ later_in r x (a ++ b) (in_first r a b e)
]

pub in_second : (r : HashId) (a b : List HashId) → is_among r b ≡ true → is_among r (a ++ b) ≡ true
in_second r [] b m = m
in_second r (x ∷ a) b m = later_in r x (a ++ b) (in_second r a b m)

pub in_either : (r : HashId) (a b : List HashId) → is_among r (a ++ b) ≡ true → (is_among r a ≡ true) ⊎ (is_among r b ≡ true)
in_either r [] b m = inr m
in_either r (x ∷ a) b m = elim (first_or_later r x (a ++ b) m) [
  | inl e ↦ inl (subst (λ k. is_among k (x ∷ a) ≡ true) (sym e) (itself_in x a))
  | inr e ↦ elim (in_either r a b e) [ inl h ↦ inl (later_in r x a h) | inr h ↦ inr h ]
]

module _ (P : HashId → Type 0) where
  pub all_none : AllIn P []
  all_none r m = absurd (cc m)

  pub all_one : (x : HashId) → P x → AllIn P (x ∷ [])
  all_one x p r m = elim (first_or_later r x [] m) [ inl e ↦ subst P (sym e) p | inr e ↦ all_none r e ]

  pub all_append : (a b : List HashId) → AllIn P a → AllIn P b → AllIn P (a ++ b)
  all_append a b p q r m = elim (in_either r a b m) [ inl e ↦ p r e | inr e ↦ q r e ]

  pub all_left : (a b : List HashId) → AllIn P (a ++ b) → AllIn P a
  all_left a b p r m = p r (in_first r a b m)

  pub all_right : (a b : List HashId) → AllIn P (a ++ b) → AllIn P b
  all_right a b p r m = p r (in_second r a b m)

  pub of_all : (ids : List HashId) → All P ids → AllIn P ids
  of_all [] p r m = absurd (cc m)
  of_all (x ∷ ids) p r m = elim (first_or_later r x ids m) [ inl e ↦ subst P (sym e) (All-head P x ids p) | inr e ↦ of_all ids (All-tail P x ids p) r e ]

  pub to_all : (ids : List HashId) → AllIn P ids → All P ids
  to_all [] p = All-nil P
  to_all (x ∷ ids) p = All-cons P x ids (p x (itself_in x ids)) (to_all ids (λ r m. p r (later_in r x ids m)))

-- ---- each once

once_from : (r : HashId) (before hs : List HashId) → is_among r (once before hs) ≡ true → is_among r hs ≡ true
once_from r before [] m = m
once_from r before (h ∷ hs) m = by (is_among h before) (λ e. once_from r before hs e) (λ e. once_from r (before ++ h ∷ []) hs e) m
  where
    by : (b : Bool) → (is_among r (once before hs) ≡ true → is_among r hs ≡ true) → (is_among r (once (before ++ h ∷ []) hs) ≡ true → is_among r hs ≡ true) → is_among r (cond b (once before hs) (h ∷ once (before ++ h ∷ []) hs)) ≡ true → is_among r (h ∷ hs) ≡ true
    by true old new e = later_in r h hs (old e)
    by false old new e = elim (first_or_later r h (once (before ++ h ∷ []) hs) e) [ inl is ↦ subst (λ k. is_among k (h ∷ hs) ≡ true) (sym is) (itself_in h hs) | inr f ↦ later_in r h hs (new f) ]

-- it was before, or it is kept
abbrev Stays : HashId → List HashId → List HashId → Type 0
Stays r before kept = (is_among r before ≡ true) ⊎ (is_among r kept ≡ true)

once_to : (r : HashId) (before hs : List HashId) → is_among r hs ≡ true → Stays r before (once before hs)
once_to r before [] m = inr m
once_to r before (h ∷ hs) m = elim (cases_Bool (is_among h before)) [
  | inl y ↦ (let same : once before (h ∷ hs) ≡ once before hs = ap (λ b. cond b (once before hs) (h ∷ once (before ++ h ∷ []) hs)) y in
      subst (Stays r before) (sym same) (elim (first_or_later r h hs m) [ inl e ↦ inl (ap (λ k. is_among k before) e ∙ y) | inr e ↦ once_to r before hs e ]))
  | inr n ↦ (let same : once before (h ∷ hs) ≡ h ∷ once (before ++ h ∷ []) hs = ap (λ b. cond b (once before hs) (h ∷ once (before ++ h ∷ []) hs)) n in
      subst (Stays r before) (sym same) (elim (first_or_later r h hs m) [
        | inl e ↦ inr (subst (λ k. is_among k (h ∷ once (before ++ h ∷ []) hs) ≡ true) (sym e) (itself_in h (once (before ++ h ∷ []) hs)))
        | inr e ↦ elim (once_to r (before ++ h ∷ []) hs e) [
          | inl f ↦ elim (in_either r before (h ∷ []) f) [
            | inl g ↦ inl g
            | inr g ↦ elim (first_or_later r h [] g) [
              | inl is ↦ inr (subst (λ k. is_among k (h ∷ once (before ++ h ∷ []) hs) ≡ true) (sym is) (itself_in h (once (before ++ h ∷ []) hs)))
              | inr none ↦ absurd (cc none)
            ]
          ]
          | inr f ↦ inr (later_in r h (once (before ++ h ∷ []) hs) f)
        ]
      ]))
]

-- what an object refers to is what is in it
pub in_object : (r : HashId) (x : Object) → is_among r (references x) ≡ true → is_among r (in_order x) ≡ true
unfolding references
in_object r x m = once_from r [] (in_order x) m

pub in_references : (r : HashId) (x : Object) → is_among r (in_order x) ≡ true → is_among r (references x) ≡ true
unfolding references
in_references r x m = elim (once_to r [] (in_order x) m) [ inl e ↦ absurd (cc e) | inr e ↦ e ]
