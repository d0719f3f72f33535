-- What is met depth first, by what objects refer to.
use Rattle.std.proofs.Common.{◌≡◌, ◌⊎◌, ℕ, zero, suc, ◌+◌, ◌<◌, Bool, true, false, not, cond, List, [], ◌∷◌, ◌++◌, length, inl, inr, refl, sym, ap, subst, ◌∙◌, length-append, arith}
use Rattle.std.specs.Prelude.{None, Some}
use Rattle.type_trees.specs.declared.types.HashId.{HashId}
use Rattle.type_object.specs.References.{is_among}
use Rattle.type_object.specs.visits.Visits.{first_of, then_visits, visits}
use Rattle.type_object.proofs.OfVisits.Among.{among_more, among_still, among_last, decide}
use Rattle.type_mirror.proofs.OfCompletes.Among.{Within, Distinct, among_first, among_later, among_cases, among_left, among_right, within_both, distinct_more}

abbrev pub walk : (HashId → List HashId) → ℕ → List HashId → List HashId → List HashId
walk refers n seen todo = visits (λ id. true) refers n seen todo

abbrev fresh : List HashId → HashId → Bool
fresh seen id = not (is_among id seen)

-- ---- the next that is to be visited

record Next (seen todo : List HashId) : Type 0 where
  id : HashId
  rest : List HashId
  is : first_of (fresh seen) todo ≡ Some (id, rest)
  new : is_among id seen ≡ false
  inside : is_among id todo ≡ true
  behind : Within rest todo
  split : (j : HashId) → is_among j todo ≡ true → (is_among j seen ≡ true) ⊎ ((j ≡ id) ⊎ (is_among j rest ≡ true))

record NoNext (seen todo : List HashId) : Type 0 where
  none : first_of (fresh seen) todo ≡ None
  all : Within todo seen

past : (seen todo : List HashId) (x : HashId) → is_among x seen ≡ true → first_of (fresh seen) (x ∷ todo) ≡ first_of (fresh seen) todo
past seen todo x a = ap (λ (b : Bool). cond (not b) (Some (x, todo)) (first_of (fresh seen) todo)) a

next_in : (seen todo : List HashId) → NoNext seen todo ⊎ Next seen todo
next_in seen [] = inl (record { none = refl; all = λ j h. absurd (cc h) })
next_in seen (x ∷ todo) = elim (decide (is_among x seen)) [
  | inl a ↦ elim (next_in seen todo) [
    | inl n ↦ inl (record { none = past seen todo x a ∙ n.none; all = λ j h. elim (among_cases j x todo h) [ inl e ↦ ap (λ i. is_among i seen) e ∙ a | inr t ↦ n.all j t ] })
    | inr n ↦ inr (record {
      id = n.id;
      rest = n.rest;
      is = past seen todo x a ∙ n.is;
      new = n.new;
      inside = among_later n.id x todo n.inside;
      behind = λ j h. among_later j x todo (n.behind j h);
      split = λ j h. elim (among_cases j x todo h) [ inl e ↦ inl (ap (λ i. is_among i seen) e ∙ a) | inr t ↦ n.split j t ];
    })
  ]
  | inr n ↦ inr (record {
    id = x;
    rest = todo;
    is = ap (λ (b : Bool). cond (not b) (Some (x, todo)) (first_of (fresh seen) todo)) n;
    new = n;
    inside = among_first x todo;
    behind = λ j h. among_later j x todo h;
    split = λ j h. inr (among_cases j x todo h);
  })
]

walk_over : (refers : HashId → List HashId) (seen todo : List HashId) → walk refers 0 seen todo ≡ seen
unfolding visits
walk_over refers seen todo = refl

walk_none : (refers : HashId → List HashId) (n : ℕ) (seen todo : List HashId) → NoNext seen todo → walk refers (suc n) seen todo ≡ seen
unfolding visits
walk_none refers n seen todo h = ap (then_visits (λ id rest. walk refers n (seen ++ id ∷ []) (refers id ++ rest)) seen) h.none

walk_one : (refers : HashId → List HashId) (n : ℕ) (seen todo : List HashId) (h : Next seen todo) → walk refers (suc n) seen todo ≡ walk refers n (seen ++ h.id ∷ []) (refers h.id ++ h.rest)
unfolding visits
walk_one refers n seen todo h = ap (then_visits (λ id rest. walk refers n (seen ++ id ∷ []) (refers id ++ rest)) seen) h.is

-- ---- what was seen, and what is met

pub seen_still : (refers : HashId → List HashId) (n : ℕ) (seen todo : List HashId) → Within seen (walk refers n seen todo)
seen_still refers zero seen todo j h = ap (is_among j) (walk_over refers seen todo) ∙ h
seen_still refers (suc n) seen todo j h = elim (next_in seen todo) [
  | inl e ↦ ap (is_among j) (walk_none refers n seen todo e) ∙ h
  | inr e ↦ ap (is_among j) (walk_one refers n seen todo e) ∙ seen_still refers n (seen ++ e.id ∷ []) (refers e.id ++ e.rest) j (among_still j e.id seen h)
]

-- What is closed under what objects refer to, and has those that are to be visited, has all that is met.
pub stays : (refers : HashId → List HashId) (all : List HashId) → ((id : HashId) → is_among id all ≡ true → Within (refers id) all) → (n : ℕ) (seen todo : List HashId) → Within seen all → Within todo all → Within (walk refers n seen todo) all
stays refers all closed zero seen todo p q j h = p j (sym (ap (is_among j) (walk_over refers seen todo)) ∙ h)
stays refers all closed (suc n) seen todo p q j h = elim (next_in seen todo) [
  | inl e ↦ p j (sym (ap (is_among j) (walk_none refers n seen todo e)) ∙ h)
  | inr e ↦
      let here = q e.id e.inside in
      stays refers all closed n (seen ++ e.id ∷ []) (refers e.id ++ e.rest) (λ i a. elim (among_more i e.id seen a) [ inl s ↦ p i s | inr s ↦ ap (λ k. is_among k all) s ∙ here ])
      (within_both (refers e.id) e.rest all (closed e.id here) (λ i a. q i (e.behind i a))) j (sym (ap (is_among j) (walk_one refers n seen todo e)) ∙ h)
]

pub distinct_walk : (refers : HashId → List HashId) (n : ℕ) (seen todo : List HashId) → Distinct seen → Distinct (walk refers n seen todo)
distinct_walk refers zero seen todo p = subst Distinct (sym (walk_over refers seen todo)) p
distinct_walk refers (suc n) seen todo p = elim (next_in seen todo) [
  | inl e ↦ subst Distinct (sym (walk_none refers n seen todo e)) p
  | inr e ↦ subst Distinct (sym (walk_one refers n seen todo e)) (distinct_walk refers n (seen ++ e.id ∷ []) (refers e.id ++ e.rest) (distinct_more seen e.id p e.new))
]

-- ---- a walk that ended

-- what was seen refers to what was seen or is to be visited
abbrev Settled : (HashId → List HashId) → List HashId → List HashId → Type 0
Settled refers seen todo = (id j : HashId) → is_among id seen ≡ true → is_among j (refers id) ≡ true → (is_among j seen ≡ true) ⊎ (is_among j todo ≡ true)

pub record IsClosed (refers : HashId → List HashId) (todo all : List HashId) : Type 0 where
  pub first : Within todo all
  pub each : (id : HashId) → is_among id all ≡ true → Within (refers id) all

settled_more : (refers : HashId → List HashId) (seen todo : List HashId) (e : Next seen todo) → Settled refers seen todo → Settled refers (seen ++ e.id ∷ []) (refers e.id ++ e.rest)
settled_more refers seen todo e s id j a r = elim (among_more id e.id seen a) [
  | inl b ↦ elim (s id j b r) [
    | inl c ↦ inl (among_still j e.id seen c)
    | inr c ↦ elim (e.split j c) [
      | inl d ↦ inl (among_still j e.id seen d)
      | inr d ↦ elim d [ inl f ↦ inl (ap (λ k. is_among k (seen ++ e.id ∷ [])) f ∙ among_last e.id seen) | inr f ↦ inr (among_right j (refers e.id) e.rest f) ]
    ]
  ]
  | inr b ↦ inr (among_left j (refers e.id) e.rest (ap (λ k. is_among j (refers k)) (sym b) ∙ r))
]

first_more : (seen todo all refs : List HashId) (e : Next seen todo) → Within (seen ++ e.id ∷ []) all → Within (refs ++ e.rest) all → Within todo all
first_more seen todo all refs e p q j h = elim (e.split j h) [
  | inl a ↦ p j (among_still j e.id seen a)
  | inr a ↦ elim a [ inl b ↦ ap (λ k. is_among k all) b ∙ p e.id (among_last e.id seen) | inr b ↦ q j (among_right j refs e.rest b) ]
]

-- Where fewer were met than might have been, all that is referred to was met.
pub closed : (refers : HashId → List HashId) (n : ℕ) (seen todo : List HashId) → Settled refers seen todo → length (walk refers n seen todo) < length seen + n → IsClosed refers todo (walk refers n seen todo)
closed refers zero seen todo s few = absurd (omega (arith, few, ap (λ (o : List HashId). length o) (walk_over refers seen todo)))
closed refers (suc n) seen todo s few = elim (next_in seen todo) [
  | inl e ↦ subst (IsClosed refers todo) (sym (walk_none refers n seen todo e)) (record { first = e.all; each = λ id a j r. elim (s id j a r) [ inl h ↦ h | inr h ↦ e.all j h ] })
  | inr e ↦
      let then = seen ++ e.id ∷ [] in
      let after = refers e.id ++ e.rest in
      let same = walk_one refers n seen todo e in
      let few_then : length (walk refers n then after) < length then + n = omega (arith, few, ap (λ (o : List HashId). length o) same, length-append seen (e.id ∷ [])) in
      let h = closed refers n then after (settled_more refers seen todo e s) few_then in
      subst (IsClosed refers todo) (sym same) (record { first = first_more seen todo (walk refers n then after) (refers e.id) e (seen_still refers n then after) h.first; each = h.each })
]

-- ---- two walks

-- Where all that is met refers to the same, the same is met.
pub agree : (refers others : HashId → List HashId) (n : ℕ) (seen todo : List HashId) → ((id : HashId) → is_among id (walk refers n seen todo) ≡ true → refers id ≡ others id) → walk refers n seen todo ≡ walk others n seen todo
agree refers others zero seen todo same = walk_over refers seen todo ∙ sym (walk_over others seen todo)
agree refers others (suc n) seen todo same = elim (next_in seen todo) [
  | inl e ↦ walk_none refers n seen todo e ∙ sym (walk_none others n seen todo e)
  | inr e ↦
      let then = seen ++ e.id ∷ [] in
      let one = walk_one refers n seen todo e in
      let met : is_among e.id (walk refers (suc n) seen todo) ≡ true = ap (is_among e.id) one ∙ seen_still refers n then (refers e.id ++ e.rest) e.id (among_last e.id seen) in
      one ∙ agree refers others n then (refers e.id ++ e.rest) (λ id a. same id (ap (is_among id) one ∙ a))
      ∙ ap (λ (o : List HashId). walk others n then (o ++ e.rest)) (same e.id met) ∙ sym (walk_one others n seen todo e)
]
