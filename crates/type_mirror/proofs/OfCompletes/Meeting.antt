-- What is met where less is held than is there, and what is asked for then.
use Rattle.std.proofs.Common.{◌≡◌, ◌⊎◌, ℕ, zero, suc, ◌≤◌, Bool, true, false, not, cond, List, [], ◌∷◌, length, take, filter, Option, inl, inr, refl, sym, ap, ap₂, subst, ◌∙◌, arith}
use Rattle.std.specs.Prelude.{None, Some, nat_lt}
use Rattle.std.specs.Option.{is_some}
use Rattle.std.proofs.lemmas.Bool.Decides.{nat_tests}
use Rattle.std.proofs.lemmas.List.{length-take}
use Rattle.type_trees.specs.declared.types.HashId.{HashId}
use Rattle.type_object.specs.References.{is_among}
use Rattle.type_object.specs.Pools.{object_in}
use Rattle.type_object.specs.visits.Visits.{Known, is_known, references_in, referred}
use Rattle.type_lookup.specs.declared.messages.messages.Fetched.{Fetched}
use Rattle.type_registry.specs.Passed.{Keeps}
use Rattle.lookup_fetch.specs.Rounds.{reached, with_object, objects_of, closure, lacking}
use Rattle.lookup_fetch.proofs.Reaching.{unknown}
use Rattle.type_mirror.proofs.OfCompletes.Among.{Within, Distinct, never, among_first, among_later, among_cases, no_more}
use Rattle.type_mirror.proofs.OfCompletes.Walks.{walk, stays, distinct_walk, IsClosed, closed, agree}

-- ---- what is met

pub reached_walk : (k : Known) (ids : List HashId) → reached k ids ≡ walk (referred k) 4097 [] ids
unfolding reached
reached_walk k ids = refl

pub reached_distinct : (k : Known) (ids : List HashId) → Distinct (reached k ids)
reached_distinct k ids = subst Distinct (sym (reached_walk k ids)) (distinct_walk (referred k) 4097 [] ids tt)

reached_closed : (k : Known) (ids : List HashId) → length (reached k ids) ≤ 4096 → IsClosed (referred k) ids (reached k ids)
reached_closed k ids few =
    let same = reached_walk k ids in
    subst (IsClosed (referred k) ids) (sym same) (closed (referred k) 4097 [] ids (λ id j a r. absurd (cc a)) (omega (arith, few, ap (λ (o : List HashId). length o) same)))

same_referred : (k l : Known) (id : HashId) → k id ≡ l id → referred k id ≡ referred l id
same_referred k l id e = ap (λ (o : Option (List ℕ)). references_in (object_in o)) e

-- what is held refers to nothing else than what is there
referred_within : (k l : Known) (id : HashId) (all : List HashId) → Keeps k l → Within (referred l id) all → (o : Option (List ℕ)) → k id ≡ o → Within (referred k id) all
referred_within k l id all keeps within None e j h = absurd (let none = ap (λ (o : Option (List ℕ)). is_among j (references_in (object_in o))) e in cc)
referred_within k l id all keeps within (Some octets) e j h = within j (sym (ap (is_among j) (same_referred k l id (e ∙ sym (keeps id octets e)))) ∙ h)

module _ (k l : Known) (ids : List HashId) (keeps : Keeps k l) (few : length (reached l ids) ≤ 4096) where
  pub reached_within : Within (reached k ids) (reached l ids)
  reached_within =
      let c = reached_closed l ids few in
      subst (λ (o : List HashId). Within o (reached l ids)) (sym (reached_walk k ids))
      (stays (referred k) (reached l ids) (λ id a. referred_within k l id (reached l ids) keeps (c.each id a) (k id) refl) 4097 [] ids (λ j h. absurd (cc h)) c.first)

  pub reached_few : length (reached k ids) ≤ 4096
  reached_few = let n = no_more (reached k ids) (reached l ids) (reached_distinct k ids) reached_within in omega (arith, n, few)

-- ---- the objects of what is met

same_some : {X : Type 0} (x y : X) → Some x ≡ Some y → x ≡ y
same_some x y e = cc e

-- an object, and others
with_some : (id : HashId) (o : Option (List ℕ)) (more : Option (List Fetched)) (objects : List Fetched) → with_object id o more ≡ Some objects → (octets : List ℕ) × (others : List Fetched) × (o ≡ Some octets) × (more ≡ Some others) × (objects ≡ record { id = id; octets = octets } ∷ others)
with_some id None more objects e = absurd (cc e)
with_some id (Some octets) None objects e = absurd (cc e)
with_some id (Some octets) (Some others) objects e = (octets, others, refl, refl, sym (same_some (record { id = id; octets = octets } ∷ others) objects e))

pub each_known : (k : Known) (ids : List HashId) (objects : List Fetched) → objects_of k ids ≡ Some objects → (id : HashId) → is_among id ids ≡ true → (octets : List ℕ) × (k id ≡ Some octets)
each_known k [] objects e id h = absurd (cc h)
each_known k (x ∷ ids) objects e id h =
    let w = with_some x (k x) (objects_of k ids) objects e in
    elim (among_cases id x ids h) [ inl s ↦ (w.0, ap k s ∙ w.2) | inr t ↦ each_known k ids w.1 w.3 id t ]

pub as_many : (k : Known) (ids : List HashId) (objects : List Fetched) → objects_of k ids ≡ Some objects → length objects ≡ length ids
as_many k [] objects e = ap (λ (o : List Fetched). length o) (sym (same_some [] objects e))
as_many k (x ∷ ids) objects e =
    let w = with_some x (k x) (objects_of k ids) objects e in
    ap (λ (o : List Fetched). length o) w.4 ∙ ap suc (as_many k ids w.1 w.3)

pub same_objects : (k l : Known) (ids : List HashId) → ((id : HashId) → is_among id ids ≡ true → k id ≡ l id) → objects_of k ids ≡ objects_of l ids
same_objects k l [] same = refl
same_objects k l (x ∷ ids) same =
    ap₂ (λ (o : Option (List ℕ)) (more : Option (List Fetched)). with_object x o more) (same x (among_first x ids)) (same_objects k l ids (λ id h. same id (among_later id x ids h)))

with_none : (id : HashId) (o : Option (List ℕ)) (more : Option (List Fetched)) → with_object id o more ≡ None → (o ≡ None) ⊎ (more ≡ None)
with_none id None more e = inl refl
with_none id (Some octets) None e = inr refl
with_none id (Some octets) (Some others) e = absurd (cc e)

-- one that isn't known
one_unknown : (k : Known) (ids : List HashId) → objects_of k ids ≡ None → (id : HashId) × (is_among id ids ≡ true) × (k id ≡ None)
one_unknown k [] e = absurd (cc e)
one_unknown k (x ∷ ids) e = elim (with_none x (k x) (objects_of k ids) e) [
  | inl n ↦ (x, among_first x ids, n)
  | inr n ↦ let u = one_unknown k ids n in (u.0, among_later u.0 x ids u.1, u.2)
]

cond_some : (b : Bool) (o : Option (List Fetched)) (objects : List Fetched) → cond b None o ≡ Some objects → (b ≡ false) × (o ≡ Some objects)
cond_some true o objects e = absurd (cc e)
cond_some false o objects e = (refl, e)

not_over : (n : ℕ) → nat_lt 4096 n ≡ false → n ≤ 4096
not_over n e = grind (arith, nat_tests)

pub record Met (there : Known) (ids : List HashId) (objects : List Fetched) : Type 0 where
  pub few : length (reached there ids) ≤ 4096
  pub all : objects_of there (reached there ids) ≡ Some objects

pub met_all : (there : Known) (ids : List HashId) (objects : List Fetched) → closure there ids ≡ Some objects → Met there ids objects
unfolding closure
met_all there ids objects e =
    let c = cond_some (nat_lt 4096 (length (reached there ids))) (objects_of there (reached there ids)) objects e in
    record { few = not_over (length (reached there ids)) c.0; all = c.1 }

-- Where all that is met through what is held is held, it is all that is met through what is there.
pub whole_same : (k l : Known) (ids : List HashId) (some all : List Fetched) → Keeps k l → objects_of k (reached k ids) ≡ Some some → objects_of l (reached l ids) ≡ Some all → some ≡ all
whole_same k l ids some all keeps e f =
    let same : (id : HashId) → is_among id (reached k ids) ≡ true → k id ≡ l id = λ id h. (let o = each_known k (reached k ids) some e id h in o.1 ∙ sym (keeps id o.0 o.1)) in
    let walked : reached k ids ≡ reached l ids =
    reached_walk k ids ∙ agree (referred k) (referred l) 4097 [] ids (λ id h. same_referred k l id (same id (ap (is_among id) (reached_walk k ids) ∙ h))) ∙ sym (reached_walk l ids) in
    same_some some all (sym e ∙ same_objects k l (reached k ids) same ∙ ap (objects_of l) walked ∙ f)

-- ---- what is asked for

module _ (p : HashId → Bool) where
  in_by : (x : HashId) (xs : List HashId) (id : HashId) → (is_among id (filter p xs) ≡ true → (is_among id xs ≡ true) × (p id ≡ true)) → (b : Bool) → p x ≡ b → is_among id (cond b (x ∷ filter p xs) (filter p xs)) ≡ true → (is_among id (x ∷ xs) ≡ true) × (p id ≡ true)
  in_by x xs id so true e a = elim (among_cases id x (filter p xs) a) [
    | inl s ↦ (ap (λ i. is_among i (x ∷ xs)) s ∙ among_first x xs, ap p s ∙ e)
    | inr t ↦ let r = so t in (among_later id x xs r.0, r.1)
  ]
  in_by x xs id so false e a = let r = so a in (among_later id x xs r.0, r.1)

  in_filter : (xs : List HashId) (id : HashId) → is_among id (filter p xs) ≡ true → (is_among id xs ≡ true) × (p id ≡ true)
  in_filter [] id h = absurd (cc h)
  in_filter (x ∷ xs) id h = in_by x xs id (λ t. in_filter xs id t) (p x) refl h

  to_by : (x : HashId) (xs : List HashId) (id : HashId) → (is_among id xs ≡ true → is_among id (filter p xs) ≡ true) → p id ≡ true → (id ≡ x) ⊎ (is_among id xs ≡ true) → (b : Bool) → p x ≡ b → is_among id (cond b (x ∷ filter p xs) (filter p xs)) ≡ true
  to_by x xs id so holds (inl s) true e = ap (λ i. is_among i (x ∷ filter p xs)) s ∙ among_first x (filter p xs)
  to_by x xs id so holds (inl s) false e = absurd (never (p x) (ap p (sym s) ∙ holds) e)
  to_by x xs id so holds (inr t) true e = among_later id x (filter p xs) (so t)
  to_by x xs id so holds (inr t) false e = so t

  to_filter : (xs : List HashId) (id : HashId) → is_among id xs ≡ true → p id ≡ true → is_among id (filter p xs) ≡ true
  to_filter [] id h holds = h
  to_filter (x ∷ xs) id h holds = to_by x xs id (λ t. to_filter xs id t holds) holds (among_cases id x xs h) (p x) refl

in_take : (n : ℕ) (xs : List HashId) → Within (take n xs) xs
in_take zero xs id h = absurd (cc h)
in_take (suc n) [] id h = h
in_take (suc n) (x ∷ xs) id h = elim (among_cases id x (take n xs) h) [ inl s ↦ ap (λ i. is_among i (x ∷ xs)) s ∙ among_first x xs | inr t ↦ among_later id x xs (in_take n xs id t) ]

first_taken : (n : ℕ) (xs : List HashId) (id : HashId) → is_among id xs ≡ true → (x : HashId) × (rest : List HashId) × (take (suc n) xs ≡ x ∷ rest)
first_taken n [] id h = absurd (cc h)
first_taken n (x ∷ xs) id h = (x, take n xs, refl)

-- At least one is asked for and at most 64, each of those asked for is met, and none of them is held.
pub record Asking (k : Known) (met asked : List HashId) : Type 0 where
  pub first : HashId
  pub rest : List HashId
  pub some : asked ≡ first ∷ rest
  pub few : length asked ≤ 64
  pub inside : Within asked met
  pub new : (id : HashId) → is_among id asked ≡ true → k id ≡ None

pub asking : (k : Known) (met : List HashId) → objects_of k met ≡ None → Asking k met (lacking k met)
asking k met e =
    let lacks : HashId → Bool = λ id. not (is_known k id) in
    let u = one_unknown k met e in
    let f = first_taken 63 (filter lacks met) u.0 (to_filter lacks met u.0 u.1 (ap (λ (o : Option (List ℕ)). not (is_some o)) u.2)) in
    record {
      first = f.0;
      rest = f.1;
      some = f.2;
      few = omega (arith, length-take 64 (filter lacks met));
      inside = λ id h. (in_filter lacks met id (in_take 64 (filter lacks met) id h)).0;
      new = λ id h. unknown (k id) (in_filter lacks met id (in_take 64 (filter lacks met) id h)).1;
    }
