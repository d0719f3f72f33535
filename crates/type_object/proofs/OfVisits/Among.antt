-- What is among identifiers.
use Rattle.std.proofs.Common.{◌≡◌, ◌≢◌, Bool, true, false, ◌||◌, cond, List, [], ◌∷◌, ◌++◌, inl, inr, ◌⊎◌, refl, sym, ap, ◌∙◌}
use mathlib.Core.Bool.{true≢false}
use Rattle.std.specs.List.{list_any}
use Rattle.indexmap.specs.IndexSet.{insert_key}
use Rattle.type_trees.specs.declared.types.HashId.{HashId}
use Rattle.type_trees.specs.contracts.types.HashIdPartialEq.TheImpl as keys
use Rattle.type_trees.specs.Ids.{same_id}
use Rattle.type_trees.proofs.SameIds.{same_id_tells, same_id_itself}
use Rattle.type_object.proofs.Noted.{note_is}
use Rattle.type_object.specs.References.{is_among}

-- ---- the keys of a set

among_keys : (id : HashId) (ids : List HashId) → list_any (keys.eq-value.it id) ids ≡ is_among id ids
among_keys id [] = refl
among_keys id (k ∷ ids) = ap (λ (b : Bool). keys.eq-value.it id k || b) (among_keys id ids)

pub contained : (id : HashId) (ids old : List HashId) → ids ≡ old → list_any (keys.eq-value.it id) ids ≡ is_among id old
contained id ids old view = among_keys id ids ∙ ap (is_among id) view

pub added : (id : HashId) (ids after old : List HashId) → after ≡ insert_key keys.eq-value.it ids id → ids ≡ old → is_among id old ≡ false → after ≡ old ++ id ∷ []
added id ids after old put view none = put ∙ note_is id ids ∙ ap (λ b. cond b ids (ids ++ id ∷ [])) (ap (is_among id) view ∙ none) ∙ ap (λ o. o ++ id ∷ []) view

-- ---- one more

or_false : (a b : Bool) → a || b ≡ true → a ≡ false → b ≡ true
or_false a b h e = sym (ap (λ (c : Bool). c || b) e) ∙ h

-- what is among more was among them, or is the one that was added
pub among_more : (j id : HashId) (ids : List HashId) → is_among j (ids ++ id ∷ []) ≡ true → (is_among j ids ≡ true) ⊎ (j ≡ id)
among_more j id [] h = elim (same_id_tells j id) [ inl t ↦ inr t.1 | inr t ↦ absurd (true≢false (sym (or_false (same_id j id) false h t.0))) ]
among_more j id (k ∷ ids) h = elim (same_id_tells j k) [
  | inl t ↦ inl (ap (λ b. b || is_among j ids) t.0)
  | inr t ↦ elim (among_more j id ids (or_false (same_id j k) _ h t.0)) [ inl e ↦ inl (ap (λ b. b || is_among j ids) t.0 ∙ e) | inr e ↦ inr e ]
]

or_true : (b : Bool) → b || true ≡ true
or_true true = refl
or_true false = refl

pub among_still : (j id : HashId) (ids : List HashId) → is_among j ids ≡ true → is_among j (ids ++ id ∷ []) ≡ true
among_still j id [] h = absurd (cc h)
among_still j id (k ∷ ids) h = elim (same_id_tells j k) [
  | inl t ↦ ap (λ b. b || is_among j (ids ++ id ∷ [])) t.0
  | inr t ↦ ap (λ b. b || is_among j (ids ++ id ∷ [])) t.0 ∙ among_still j id ids (or_false (same_id j k) _ h t.0)
]

pub among_last : (id : HashId) (ids : List HashId) → is_among id (ids ++ id ∷ []) ≡ true
among_last id [] = ap (λ b. b || false) (same_id_itself id)
among_last id (k ∷ ids) = ap (λ b. same_id id k || b) (among_last id ids) ∙ or_true (same_id id k)

-- one that is among them is not one that isn't
pub differ : (j id : HashId) (ids : List HashId) → is_among j ids ≡ true → is_among id ids ≡ false → j ≢ id
differ j id ids a b e = true≢false (sym a ∙ ap (λ k. is_among k ids) e ∙ b)

pub decide : (b : Bool) → (b ≡ true) ⊎ (b ≡ false)
decide true = inl refl
decide false = inr refl

-- ---- sets, one identifier after another

or_nil : (b : Bool) → b || false ≡ b
or_nil true = refl
or_nil false = refl

or_assoc : (a b e : Bool) → a || (b || e) ≡ (a || b) || e
or_assoc true b e = refl
or_assoc false b e = refl

among_snoc : (j x : HashId) (xs : List HashId) → is_among j (xs ++ x ∷ []) ≡ is_among j xs || same_id j x
among_snoc j x [] = or_nil (same_id j x)
among_snoc j x (k ∷ xs) = ap (λ b. same_id j k || b) (among_snoc j x xs) ∙ or_assoc (same_id j k) (is_among j xs) (same_id j x)

-- the set has those that are not in the rest
abbrev pub Holds : List HashId → List HashId → List HashId → Type 0
Holds set all rest = (j : HashId) → is_among j all ≡ is_among j set || is_among j rest

pub holds_none : (set all : List HashId) → set ≡ [] → Holds set all all
holds_none set all none j = ap (λ o. is_among j o || is_among j all) (sym none)

pub holds_more : (set then all rest after : List HashId) (x : HashId) → then ≡ set ++ x ∷ [] → rest ≡ x ∷ after → Holds set all rest → Holds then all after
holds_more set then all rest after x more is h j =
    h j ∙ ap (λ o. is_among j set || is_among j o) is ∙ or_assoc (is_among j set) (same_id j x) (is_among j after)
    ∙ ap (λ b. b || is_among j after) (sym (among_snoc j x set) ∙ ap (is_among j) (sym more))

past_one : (set after : List HashId) (j x : HashId) → is_among x set ≡ true → is_among j set || (same_id j x || is_among j after) ≡ is_among j set || is_among j after
past_one set after j x a = elim (same_id_tells j x) [
  | inl t ↦ let there : is_among j set ≡ true = ap (λ i. is_among i set) t.1 ∙ a in ap (λ b. b || (same_id j x || is_among j after)) there ∙ sym (ap (λ b. b || is_among j after) there)
  | inr t ↦ ap (λ b. is_among j set || (b || is_among j after)) t.0
]

pub holds_past : (set all rest after : List HashId) (x : HashId) → rest ≡ x ∷ after → is_among x set ≡ true → Holds set all rest → Holds set all after
holds_past set all rest after x is a h j = h j ∙ ap (λ o. is_among j set || is_among j o) is ∙ past_one set after j x a

pub holds_all : (set all rest : List HashId) → rest ≡ [] → Holds set all rest → (j : HashId) → is_among j set ≡ is_among j all
holds_all set all rest none h j = sym (h j ∙ ap (λ o. is_among j set || is_among j o) none ∙ or_nil (is_among j set))
