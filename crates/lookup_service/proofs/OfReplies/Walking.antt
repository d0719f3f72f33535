-- Walks through known objects, one visit after another.
use Rattle.std.proofs.Common.{◌≡◌, ◌≢◌, ℕ, zero, suc, ◌-◌, ◌<◌, length, arith, Bool, true, false, ◌&&◌, cond, not, List, [], ◌∷◌, ◌++◌, Option, inl, inr, refl, sym, ap, subst, ◌∙◌}
use Rattle.std.specs.Prelude.{None, Some, All}
use Rattle.std.specs.Option.{is_some}
use mathlib.Core.Bool.{true≢false}
use Rattle.std.proofs.lemmas.List.Elements.{All-nil, All-push}
use Rattle.type_trees.specs.declared.types.HashId.{HashId}
use Rattle.type_object.specs.Pools.{object_in}
use Rattle.type_object.specs.References.{is_among}
use Rattle.type_object.specs.visits.Visits.{Known, is_known, referred, references_in, first_of, is_new, then_visits, visits, met}
use Rattle.lookup_service.specs.replies.Walks.{Agrees, Tells, visits_by, Leads, Further}
use Rattle.type_object.proofs.OfVisits.Among.{among_more, among_still, among_last, differ, decide}

-- ---- the definition, by its cases

and_false : (b : Bool) → b && false ≡ false
and_false true = refl
and_false false = refl

abbrev next_of : Known → List HashId → List HashId → Option (HashId × List HashId)
next_of l seen todo = first_of (is_new (is_known l) seen) todo

passes : (l : Known) (seen : List HashId) (id : HashId) (rest : List HashId) → is_new (is_known l) seen id ≡ false → next_of l seen (id ∷ rest) ≡ next_of l seen rest
passes l seen id rest e = ap (λ b. cond b (Some (id, rest)) (next_of l seen rest)) e

takes : (l : Known) (seen : List HashId) (id : HashId) (rest : List HashId) → is_new (is_known l) seen id ≡ true → next_of l seen (id ∷ rest) ≡ Some (id, rest)
takes l seen id rest e = ap (λ b. cond b (Some (id, rest)) (next_of l seen rest)) e

same_next : (l : Known) (n : ℕ) (seen todo other : List HashId) → next_of l seen todo ≡ next_of l seen other → visits_by l n seen todo ≡ visits_by l n seen other
unfolding visits
same_next l zero seen todo other e = refl
same_next l (suc n) seen todo other e = ap (then_visits (λ id rest. visits_by l n (seen ++ id ∷ []) (referred l id ++ rest)) seen) e

visits_one : (l : Known) (n : ℕ) (seen todo : List HashId) (id : HashId) (rest : List HashId) → next_of l seen todo ≡ Some (id, rest) → visits_by l (suc n) seen todo ≡ visits_by l n (seen ++ id ∷ []) (referred l id ++ rest)
unfolding visits
visits_one l n seen todo id rest e = ap (then_visits (λ i r. visits_by l n (seen ++ i ∷ []) (referred l i ++ r)) seen) e

pub visits_none : (l : Known) (n : ℕ) (seen : List HashId) → visits_by l n seen [] ≡ seen
unfolding visits
visits_none l zero seen = refl
visits_none l (suc n) seen = refl

pub visits_over : (l : Known) (seen todo : List HashId) → visits_by l 0 seen todo ≡ seen
unfolding visits
visits_over l seen todo = refl

-- ---- identifiers that are not visited

unknown_old : (l : Known) (seen : List HashId) (id : HashId) → l id ≡ None → is_new (is_known l) seen id ≡ false
unknown_old l seen id e = ap (λ (o : Option (List ℕ)). is_some o && not (is_among id seen)) e

seen_old : (l : Known) (seen : List HashId) (id : HashId) → is_among id seen ≡ true → is_new (is_known l) seen id ≡ false
seen_old l seen id e = ap (λ b. is_known l id && not b) e ∙ and_false (is_known l id)

known_new : (l : Known) (seen : List HashId) (id : HashId) (octets : List ℕ) → l id ≡ Some octets → is_among id seen ≡ false → is_new (is_known l) seen id ≡ true
known_new l seen id octets e n = ap (λ (o : Option (List ℕ)). is_some o && not (is_among id seen)) e ∙ ap not n

-- ---- what was tried

-- what was not tried was not seen
unseen : (k : Known) (tried seen : List HashId) (id : HashId) → Tells k tried seen → is_among id tried ≡ false → is_among id seen ≡ false
unseen k tried seen id t n = elim (decide (is_among id seen)) [ inl y ↦ absurd (true≢false (sym (t.among id y) ∙ n)) | inr e ↦ e ]

-- after one more was tried, of which alone something may have been learned
pub further_more : (k l : Known) (tried : List HashId) (id : HashId) → is_among id tried ≡ false → ((j : HashId) → j ≢ id → l j ≡ k j) → Further k tried l (tried ++ id ∷ [])
further_more k l tried id n others = record {
  same = λ j a. others j (differ j id tried a n);
  more = λ j a. among_still j id tried a;
}

pub further_same : (k : Known) (tried : List HashId) → Further k tried k tried
further_same k tried = record { same = λ j a. refl; more = λ j a. a }

pub further_then : (k l m : Known) (tried then last : List HashId) → Further k tried l then → Further l then m last → Further k tried m last
further_then k l m tried then last f g = record {
  same = λ j a. g.same j (f.more j a) ∙ f.same j a;
  more = λ j a. g.more j (f.more j a);
}

pub agrees_before : (k l m : Known) (tried then : List HashId) → Further k tried l then → Agrees l m then → Agrees k m tried
agrees_before k l m tried then f a = λ j h. a j (f.more j h) ∙ f.same j h

pub leads_same : (k : Known) (tried : List HashId) (n : ℕ) (seen todo : List HashId) → Leads k tried n seen todo n seen todo
leads_same k tried n seen todo = λ l a. refl

-- what is known later goes on from what was known before
pub leads_then : (k l : Known) (tried then : List HashId) (n m q : ℕ) (s t u v w x : List HashId) → Further k tried l then → Leads k tried n s t m u v → Leads l then m u v q w x → Leads l then n s t q w x
leads_then k l tried then n m q s t u v w x f a b = λ o e. a o (agrees_before k l o tried then f e) ∙ b o e

-- an identifier that was tried is passed over
pub leads_past : (k : Known) (tried seen : List HashId) (id : HashId) (rest : List HashId) (n : ℕ) → Tells k tried seen → is_among id tried ≡ true → Leads k tried n seen (id ∷ rest) n seen rest
leads_past k tried seen id rest n t a = λ l e. same_next l n seen (id ∷ rest) rest (passes l seen id rest (old l e))
  where
    old : (l : Known) → Agrees k l tried → is_new (is_known l) seen id ≡ false
    old l e = elim (decide (is_among id seen)) [ inl y ↦ seen_old l seen id y | inr m ↦ unknown_old l seen id (e id a ∙ t.unknown id a m) ]

-- so is one that isn't known
pub leads_unknown : (l : Known) (tried seen : List HashId) (id : HashId) (rest : List HashId) (n : ℕ) → l id ≡ None → Leads l (tried ++ id ∷ []) n seen (id ∷ rest) n seen rest
leads_unknown l tried seen id rest n none = λ m e. same_next m n seen (id ∷ rest) rest (passes m seen id rest (unknown_old m seen id (e id (among_last id tried) ∙ none)))

-- one that is known and new is visited
pub leads_visit : (k l : Known) (tried seen : List HashId) (id : HashId) (rest refs : List HashId) (octets : List ℕ) (n : ℕ) → Tells k tried seen → is_among id tried ≡ false → l id ≡ Some octets → refs ≡ references_in (object_in (Some octets))
    → Leads l (tried ++ id ∷ []) (suc n) seen (id ∷ rest) n (seen ++ id ∷ []) (refs ++ rest)
leads_visit k l tried seen id rest refs octets n t new there are = λ m e.
    let is : m id ≡ Some octets = e id (among_last id tried) ∙ there in
    visits_one m n seen (id ∷ rest) id rest (takes m seen id rest (known_new m seen id octets is (unseen k tried seen id t new)))
    ∙ ap (λ (o : Option (List ℕ)). visits_by m n (seen ++ id ∷ []) (references_in (object_in o) ++ rest)) is
    ∙ ap (λ r. visits_by m n (seen ++ id ∷ []) (r ++ rest)) (sym are)

pub leads_end : (k : Known) (tried seen : List HashId) (n : ℕ) → Leads k tried n seen [] 0 seen []
leads_end k tried seen n = λ l e. visits_none l n seen ∙ sym (visits_over l seen [])

-- ---- what was seen, tried and not seen

pub tells_nothing : (k : Known) → Tells k [] []
tells_nothing k = record { among = λ j a. a; unknown = λ j a n. absurd (cc a) }

pub tells_unknown : (k l : Known) (tried seen : List HashId) (id : HashId) → Tells k tried seen → is_among id tried ≡ false → ((j : HashId) → j ≢ id → l j ≡ k j) → l id ≡ None → Tells l (tried ++ id ∷ []) seen
tells_unknown k l tried seen id t new others none = record {
  among = λ j a. among_still j id tried (t.among j a);
  unknown = λ j a n. elim (among_more j id tried a) [ inl h ↦ others j (differ j id tried h new) ∙ t.unknown j h n | inr e ↦ ap l e ∙ none ];
}

pub tells_visit : (k l : Known) (tried seen : List HashId) (id : HashId) → Tells k tried seen → is_among id tried ≡ false → ((j : HashId) → j ≢ id → l j ≡ k j) → Tells l (tried ++ id ∷ []) (seen ++ id ∷ [])
tells_visit k l tried seen id t new others = record {
  among = λ j a. elim (among_more j id seen a) [ inl h ↦ among_still j id tried (t.among j h) | inr e ↦ ap (λ i. is_among i (tried ++ id ∷ [])) e ∙ among_last id tried ];
  unknown = λ j a n. elim (among_more j id tried a) [
    | inl h ↦ others j (differ j id tried h new) ∙ t.unknown j h (not_before j n)
    | inr e ↦ absurd (true≢false (sym (ap (λ i. is_among i (seen ++ id ∷ [])) e ∙ among_last id seen) ∙ n))
  ];
}
  where
    not_before : (j : HashId) → is_among j (seen ++ id ∷ []) ≡ false → is_among j seen ≡ false
    not_before j n = elim (decide (is_among j seen)) [ inl y ↦ absurd (true≢false (sym (among_still j id seen y) ∙ n)) | inr e ↦ e ]

-- ---- what is met is known

abbrev Wanted : (HashId → Bool) → HashId → Type 0
Wanted wanted id = wanted id ≡ true

first_wanted : (wanted : HashId → Bool) (seen todo : List HashId) (id : HashId) (rest : List HashId) → first_of (is_new wanted seen) todo ≡ Some (id, rest) → wanted id ≡ true
first_wanted wanted seen [] id rest e = absurd (cc e)
first_wanted wanted seen (j ∷ todo) id rest e = elim (decide (is_new wanted seen j)) [
  | inl y ↦ let same : j ≡ id = ap (λ (o : Option (HashId × List HashId)). first_or j o) (sym (ap (λ b. cond b (Some (j, todo)) (first_of (is_new wanted seen) todo)) y) ∙ e) in
      ap wanted (sym same) ∙ and_left (wanted j) (not (is_among j seen)) y
  | inr n ↦ first_wanted wanted seen todo id rest (sym (ap (λ b. cond b (Some (j, todo)) (first_of (is_new wanted seen) todo)) n) ∙ e)
]
  where
    first_or : HashId → Option (HashId × List HashId) → HashId
    first_or d None = d
    first_or d (Some p) = p.0

    and_left : (a b : Bool) → a && b ≡ true → a ≡ true
    and_left true b h = refl
    and_left false b h = h

all_then : (P : HashId → Type 0) (visit : HashId → List HashId → List HashId) (seen : List HashId) (o : Option (HashId × List HashId)) → All P seen → ((p : HashId × List HashId) → o ≡ Some p → All P (visit p.0 p.1)) → All P (then_visits visit seen o)
all_then P visit seen None all f = all
all_then P visit seen (Some p) all f = f p refl

pub all_wanted : (wanted : HashId → Bool) (refers : HashId → List HashId) (n : ℕ) (seen todo : List HashId) → All (λ id. wanted id ≡ true) seen → All (λ id. wanted id ≡ true) (visits wanted refers n seen todo)
unfolding visits
all_wanted wanted refers zero seen todo all = all
all_wanted wanted refers (suc n) seen todo all =
    all_then (λ id. wanted id ≡ true) (λ id rest. visits wanted refers n (seen ++ id ∷ []) (refers id ++ rest)) seen (first_of (is_new wanted seen) todo) all
    (λ p e. all_wanted wanted refers n (seen ++ p.0 ∷ []) (refers p.0 ++ p.1) (All-push (λ id. wanted id ≡ true) seen p.0 all (first_wanted wanted seen todo p.0 p.1 e)))

pub met_known : (known : Known) (n : ℕ) (ids : List HashId) → All (λ id. is_known known id ≡ true) (met known n ids)
met_known known n ids = all_wanted (is_known known) (referred known) n [] ids (All-nil (λ id. is_known known id ≡ true))

-- ---- the steps of a walk

module _ (k l : Known) (tried then seen s t todo rest : List HashId) (id : HashId) where
  pub past_step : Tells k tried seen → todo ≡ id ∷ rest → is_among id tried ≡ true → ((n : ℕ) → Leads k tried n s t n seen todo) → (n : ℕ) → Leads k tried n s t n seen rest
  past_step tells is among leads n = leads_then k k tried tried n n n s t seen todo seen rest (further_same k tried) (leads n)
      (subst (λ (o : List HashId). Leads k tried n seen o n seen rest) (sym is) (leads_past k tried seen id rest n tells among))

  pub step_further : then ≡ tried ++ id ∷ [] → is_among id tried ≡ false → ((j : HashId) → j ≢ id → l j ≡ k j) → Further k tried l then
  step_further more new others = subst (Further k tried l) (sym more) (further_more k l tried id new others)

  pub unknown_step : then ≡ tried ++ id ∷ [] → todo ≡ id ∷ rest → is_among id tried ≡ false → ((j : HashId) → j ≢ id → l j ≡ k j) → l id ≡ None → ((n : ℕ) → Leads k tried n s t n seen todo) → (n : ℕ) → Leads l then n s t n seen rest
  unknown_step more is new others none leads n = leads_then k l tried then n n n s t seen todo seen rest (step_further more new others) (leads n)
      (subst (λ (o : List HashId). Leads l then n seen o n seen rest) (sym is) (subst (λ (o : List HashId). Leads l o n seen (id ∷ rest) n seen rest) (sym more) (leads_unknown l tried seen id rest n none)))

  pub unknown_told : then ≡ tried ++ id ∷ [] → Tells k tried seen → is_among id tried ≡ false → ((j : HashId) → j ≢ id → l j ≡ k j) → l id ≡ None → Tells l then seen
  unknown_told more tells new others none = subst (λ (o : List HashId). Tells l o seen) (sym more) (tells_unknown k l tried seen id tells new others none)

  pub visit_step : (after seen_then refs : List HashId) (octets : List ℕ) → then ≡ tried ++ id ∷ [] → todo ≡ id ∷ rest → after ≡ refs ++ rest → seen_then ≡ seen ++ id ∷ [] → refs ≡ references_in (object_in (Some octets)) → Tells k tried seen → is_among id tried ≡ false
      → ((j : HashId) → j ≢ id → l j ≡ k j) → l id ≡ Some octets → ((n : ℕ) → Leads k tried n s t n seen todo) → (n : ℕ) → Leads l then (suc n) s t n seen_then after
  visit_step after seen_then refs octets more is put saw are tells new others there leads n = leads_then k l tried then (suc n) (suc n) n s t seen todo seen_then after (step_further more new others) (leads (suc n))
      (subst (λ (o : List HashId). Leads l then (suc n) seen o n seen_then after) (sym is)
      (subst (λ (o : List HashId). Leads l o (suc n) seen (id ∷ rest) n seen_then after) (sym more)
      (subst (λ (o : List HashId). Leads l (tried ++ id ∷ []) (suc n) seen (id ∷ rest) n o after) (sym saw)
      (subst (λ (o : List HashId). Leads l (tried ++ id ∷ []) (suc n) seen (id ∷ rest) n (seen ++ id ∷ []) o) (sym put)
      (leads_visit k l tried seen id rest refs octets n tells new there are)))))

  pub visit_told : (seen_then : List HashId) → then ≡ tried ++ id ∷ [] → seen_then ≡ seen ++ id ∷ [] → Tells k tried seen → is_among id tried ≡ false → ((j : HashId) → j ≢ id → l j ≡ k j) → Tells l then seen_then
  visit_told seen_then more saw tells new others = subst (λ (o : List HashId). Tells l o seen_then) (sym more) (subst (Tells l (tried ++ id ∷ [])) (sym saw) (tells_visit k l tried seen id tells new others))

  -- none is left
  pub step_none : todo ≡ [] → ((n : ℕ) → Leads k tried n s t n seen todo) → (n : ℕ) → Leads k tried n s t 0 seen todo
  step_none none leads n = leads_then k k tried tried n n 0 s t seen todo seen todo (further_same k tried) (leads n)
      (subst (λ (o : List HashId). Leads k tried n seen o 0 seen o) (sym none) (leads_end k tried seen n))

-- one visit of at most 5,120
pub round_step : (k l : Known) (tried then ids seen todo seen_then todo_then : List HashId) → length seen < 5120 → length seen_then ≡ suc (length seen) → Further k tried l then → Leads k tried 5120 [] ids (5120 - length seen) seen todo
    → ((n : ℕ) → Leads l then (suc n) seen todo n seen_then todo_then) → Leads l then 5120 [] ids (5120 - length seen_then) seen_then todo_then
round_step k l tried then ids seen todo seen_then todo_then few one f leads step =
    let same : suc (5120 - length seen_then) ≡ 5120 - length seen = omega arith in
    leads_then k l tried then 5120 (5120 - length seen) (5120 - length seen_then) [] ids seen todo seen_then todo_then f leads
    (subst (λ m. Leads l then m seen todo (5120 - length seen_then) seen_then todo_then) same (step (5120 - length seen_then)))

-- no visit is left
pub all_met : (l : Known) (then ids seen todo : List HashId) (n : ℕ) → n ≡ 0 → Leads l then 5120 [] ids n seen todo → seen ≡ met l 5120 ids
all_met l then ids seen todo n none leads = sym (leads l (λ id a. refl) ∙ ap (λ m. visits_by l m seen todo) none ∙ visits_over l seen todo)

pub last_met : (k l : Known) (tried then ids seen todo seen_then todo_then : List HashId) → Further k tried l then → Leads k tried 5120 [] ids (5120 - length seen) seen todo → ((n : ℕ) → Leads l then n seen todo 0 seen_then todo_then) → seen_then ≡ met l 5120 ids
last_met k l tried then ids seen todo seen_then todo_then f leads step = all_met l then ids seen_then todo_then 0 refl
    (leads_then k l tried then 5120 (5120 - length seen) 0 [] ids seen todo seen_then todo_then f leads (step (5120 - length seen)))

pub none_left : (k : Known) (tried seen s t todo after : List HashId) → todo ≡ [] → after ≡ [] → ((n : ℕ) → Leads k tried n s t n seen todo) → (n : ℕ) → Leads k tried n s t 0 seen after
none_left k tried seen s t todo after none is leads n = leads_then k k tried tried n n 0 s t seen todo seen after (further_same k tried) (leads n)
    (subst (λ (o : List HashId). Leads k tried n seen todo 0 seen o) (sym is) (subst (λ (o : List HashId). Leads k tried n seen o 0 seen []) (sym none) (leads_end k tried seen n)))
