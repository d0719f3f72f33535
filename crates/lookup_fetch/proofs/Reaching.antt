-- What is met from identifiers, one visit after another.
use Rattle.std.proofs.Common.{◌≡◌, ℕ, zero, suc, ◌+◌, ◌-◌, ◌<◌, ◌≤◌, Bool, true, false, not, cond, List, [], ◌∷◌, ◌++◌, length, Option, refl, sym, ap, subst, ◌∙◌, length-append, append_assoc, append-nil, arith}
use Rattle.std.specs.Prelude.{All, None, Some}
use Rattle.std.specs.Option.{option_map, is_some}
use Rattle.std.proofs.lemmas.List.Elements.{All-head, All-tail, All-append, All-push}
use Rattle.type_trees.specs.declared.types.HashId.{HashId}
use Rattle.type_object.specs.References.{is_among}
use Rattle.type_object.specs.visits.Visits.{Known, referred, first_of, then_visits, visits}
use Rattle.type_lookup.specs.declared.messages.messages.Fetched.{Fetched}
use Rattle.type_object.specs.Names.{named}
use Rattle.lookup_fetch.specs.Plans.{IsOwn}
use Rattle.lookup_fetch.specs.Rounds.{reached, with_object, objects_of}

abbrev pub reaching : Known → ℕ → List HashId → List HashId → List HashId
reaching k n met todo = visits (λ id. true) (referred k) n met todo

pub reach_one : (k : Known) (n : ℕ) (met todo after then rest refs : List HashId) (id : HashId) → first_of (λ j. not (is_among j met)) todo ≡ Some (id, rest) → then ≡ met ++ id ∷ [] → after ≡ refs ++ rest → refs ≡ referred k id → reaching k (suc n) met todo ≡ reaching k n then after
unfolding visits
reach_one k n met todo after then rest refs id next more put are =
    ap (then_visits (λ j r. reaching k n (met ++ j ∷ []) (referred k j ++ r)) met) next
    ∙ ap (λ o. reaching k n (met ++ id ∷ []) (o ++ rest)) (sym are)
    ∙ ap (λ o. reaching k n (met ++ id ∷ []) o) (sym put) ∙ ap (λ o. reaching k n o after) (sym more)

pub reach_none : (k : Known) (n : ℕ) (met todo : List HashId) → first_of (λ j. not (is_among j met)) todo ≡ None → reaching k n met todo ≡ met
unfolding visits
reach_none k zero met todo none = refl
reach_none k (suc n) met todo none = ap (then_visits (λ j r. reaching k n (met ++ j ∷ []) (referred k j ++ r)) met) none

pub reach_over : (k : Known) (met todo : List HashId) → reaching k 0 met todo ≡ met
unfolding visits
reach_over k met todo = refl

pub reached_is : (k : Known) (ids : List HashId) → reached k ids ≡ reaching k 4097 [] ids
unfolding reached
reached_is k ids = refl

pub reach_step : (k : Known) (met then tried todo after rest refs whole : List HashId) (id : HashId) → tried ≡ met → length met < 4097 → first_of (λ j. not (is_among j tried)) todo ≡ Some (id, rest) → then ≡ met ++ id ∷ [] → after ≡ refs ++ rest → refs ≡ referred k id
    → reaching k (4097 - length met) met todo ≡ whole → reaching k (4097 - length then) then after ≡ whole
reach_step k met then tried todo after rest refs whole id same few next more put are leads =
    let first : first_of (λ j. not (is_among j met)) todo ≡ Some (id, rest) = subst (λ (o : List HashId). first_of (λ j. not (is_among j o)) todo ≡ Some (id, rest)) same next in
    let one : 4097 - length met ≡ suc (4097 - length then) = omega (arith, ap (λ (o : List HashId). length o) more, length-append met (id ∷ [])) in
    sym (reach_one k (4097 - length then) met todo after then rest refs id first more put are) ∙ ap (λ n. reaching k n met todo) (sym one) ∙ leads

pub reach_end : (k : Known) (met tried todo ids : List HashId) (n : ℕ) → tried ≡ met → first_of (λ j. not (is_among j tried)) todo ≡ None → reaching k n met todo ≡ reaching k 4097 [] ids → met ≡ reached k ids
reach_end k met tried todo ids n same none leads =
    sym (reach_none k n met todo (subst (λ (o : List HashId). first_of (λ j. not (is_among j o)) todo ≡ None) same none)) ∙ leads ∙ sym (reached_is k ids)

pub reach_full : (k : Known) (met todo ids : List HashId) (n : ℕ) → n ≡ 0 → reaching k n met todo ≡ reaching k 4097 [] ids → met ≡ reached k ids
reach_full k met todo ids n none leads = sym (reach_over k met todo) ∙ ap (λ m. reaching k m met todo) (sym none) ∙ leads ∙ sym (reached_is k ids)

-- ---- the objects of what was met

abbrev pub after_objects : List Fetched → Option (List Fetched) → Option (List Fetched)
after_objects objects None = None
after_objects objects (Some more) = Some (objects ++ more)

abbrev pub Gathers : Known → List HashId → List Fetched → List HashId → Type 0
Gathers k all objects rest = objects_of k all ≡ after_objects objects (objects_of k rest)

one_more : (objects : List Fetched) (id : HashId) (octets : List ℕ) (o : Option (List Fetched)) → after_objects objects (with_object id (Some octets) o) ≡ after_objects (objects ++ record { id = id; octets = octets } ∷ []) o
one_more objects id octets None = refl
one_more objects id octets (Some more) = ap (λ (l : List Fetched). Some l) (sym (append_assoc objects (record { id = id; octets = octets } ∷ []) more))

start : (o : Option (List Fetched)) → o ≡ after_objects [] o
start None = refl
start (Some l) = refl

pub gathers_none : (k : Known) (all : List HashId) (objects : List Fetched) → objects ≡ [] → Gathers k all objects all
gathers_none k all objects none = start (objects_of k all) ∙ ap (λ (o : List Fetched). after_objects o (objects_of k all)) (sym none)

pub gathers_more : (k : Known) (all rest after : List HashId) (objects then : List Fetched) (id : HashId) (octets : List ℕ) → rest ≡ id ∷ after → k id ≡ Some octets → then ≡ objects ++ record { id = id; octets = octets } ∷ [] → Gathers k all objects rest → Gathers k all then after
gathers_more k all rest after objects then id octets is there more h =
    h ∙ ap (λ (o : List HashId). after_objects objects (objects_of k o)) is ∙ ap (λ (o : Option (List ℕ)). after_objects objects (with_object id o (objects_of k after))) there
    ∙ one_more objects id octets (objects_of k after) ∙ ap (λ (o : List Fetched). after_objects o (objects_of k after)) (sym more)

pub gathers_not : (k : Known) (all rest after : List HashId) (objects : List Fetched) (id : HashId) → rest ≡ id ∷ after → k id ≡ None → Gathers k all objects rest → None ≡ objects_of k all
gathers_not k all rest after objects id is there h =
    sym (h ∙ ap (λ (o : List HashId). after_objects objects (objects_of k o)) is ∙ ap (λ (o : Option (List ℕ)). after_objects objects (with_object id o (objects_of k after))) there)

pub gathers_all : (k : Known) (all rest : List HashId) (objects : List Fetched) → rest ≡ [] → Gathers k all objects rest → Some objects ≡ objects_of k all
gathers_all k all rest objects none h = sym (h ∙ ap (λ (o : List HashId). after_objects objects (objects_of k o)) none ∙ ap (λ (l : List Fetched). Some l) (append-nil objects))

-- ---- what holds of each

pairs_same : {A B : Type 0} (a b : A × B) → Some a ≡ Some b → a ≡ b
pairs_same a b e = cc e

first_first : (P : HashId → Type 0) (b : Bool) (x id : HashId) (xs rest : List HashId) (o : Option (HashId × List HashId)) → P x → All P xs → (o ≡ Some (id, rest) → P id × All P rest) → cond b (Some (x, xs)) o ≡ Some (id, rest) → P id × All P rest
first_first P true x id xs rest o p all so e =
    let same = pairs_same (x, xs) (id, rest) e in
    (subst P (ap (λ (q : HashId × List HashId). q.0) same) p, subst (All P) (ap (λ (q : HashId × List HashId). q.1) same) all)
first_first P false x id xs rest o p all so e = so e

-- what holds of all that are still to be tried holds of the first that is wanted, and of those behind it
pub first_each : (P : HashId → Type 0) (wanted : HashId → Bool) (todo rest : List HashId) (id : HashId) → first_of wanted todo ≡ Some (id, rest) → All P todo → P id × All P rest
first_each P wanted [] rest id e all = absurd (cc e)
first_each P wanted (x ∷ xs) rest id e all =
    first_first P (wanted x) x id xs rest (first_of wanted xs) (All-head P x xs all) (All-tail P x xs all) (λ f. first_each P wanted xs rest id f (All-tail P x xs all)) e

pub put_each : (P : HashId → Type 0) (ids old todo : List HashId) → todo ≡ ids ++ old → All P ids → All P old → All P todo
put_each P ids old todo put all others = subst (All P) (sym put) (All-append P ids old all others)

pub more_each : (P : HashId → Type 0) (met then : List HashId) (id : HashId) → then ≡ met ++ id ∷ [] → All P met → P id → All P then
more_each P met then id more all p = subst (All P) (sym more) (All-push P met id all p)

pub known_is : {R : Type 0} (now : R → List ℕ) (r : Option R) (o : Option (List ℕ)) → option_map now r ≡ o → is_some r ≡ is_some o
known_is now None o e = ap is_some e
known_is now (Some x) o e = ap is_some e

pub unknown : (o : Option (List ℕ)) → not (is_some o) ≡ true → o ≡ None
unknown None e = refl
unknown (Some x) e = absurd (cc e)

-- ---- the loops

pub reach_init : (k : Known) (met todo old ids : List HashId) → met ≡ [] → old ≡ [] → todo ≡ ids ++ old → reaching k (4097 - length met) met todo ≡ reaching k 4097 [] ids
reach_init k met todo old ids none empty put = ap (λ (o : List HashId). reaching k (4097 - length o) o todo) none ∙ ap (reaching k 4097 []) (put ∙ ap (λ (o : List HashId). ids ++ o) empty ∙ append-nil ids)

pub item_put : (objects then : List Fetched) (id : HashId) (text octets : List ℕ) → then ≡ objects ++ record { id = id; octets = text } ∷ [] → text ≡ octets → then ≡ objects ++ record { id = id; octets = octets } ∷ []
item_put objects then id text octets is same = is ∙ ap (λ (o : List ℕ). objects ++ record { id = id; octets = o } ∷ []) same

pub more_own : (objects then : List Fetched) (id : HashId) (octets : List ℕ) → then ≡ objects ++ record { id = id; octets = octets } ∷ [] → All IsOwn objects → id ≡ named octets → All IsOwn then
more_own objects then id octets put all own = subst (All IsOwn) (sym put) (All-push IsOwn objects (record { id = id; octets = octets }) all own)
