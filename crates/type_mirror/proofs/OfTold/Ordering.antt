-- A push tells of each object, in order.
use Rattle.std.proofs.Common.{◌≡◌, ℕ, zero, suc, ◌+◌, Bool, true, false, ◌&&◌, cond, List, [], ◌∷◌, ◌++◌, map, length, take, drop, Option, refl, sym, ap, ◌∙◌, arith}
use Rattle.std.specs.Prelude.{Some, None, nat_eq}
use Rattle.std.proofs.Common.{eqb-true}
use Rattle.type_trees.specs.declared.types.HashId.{HashId}
use Rattle.type_lookup.specs.declared.messages.messages.Fetched.{Fetched}
use Rattle.type_lookup.specs.declared.messages.messages.Message.{Message}
use Rattle.type_lookup.specs.declared.messages.messages.Message.TheVariants.{GetTypes, GetTypeDependencies, PutTypes, Types, Dependencies, Put}
use Rattle.type_mirror.specs.declared.told.told.Told.{Told}
use Rattle.type_mirror.specs.declared.told.told.What.{What}
use Rattle.type_mirror.specs.declared.told.told.What.TheVariants.{Clash}
use Rattle.type_mirror.specs.told.Tells.{fetched_id, told_id}
use Rattle.type_mirror.specs.told.Rounds.{Outcome, State, told_as, what_of, settled, start, batch, count_of, paired, are_outcomes, outcomes_of, clash_of, put_request, request_by, request, after_clash, after_put, answered_by, answered, End, done, bad, waits, Rounds, last_round, round, rounds, pushed}

abbrev outcome_id : Outcome → HashId
outcome_id o = o.object.id

abbrev ids_by : List Told → List Outcome → List Fetched → List HashId
ids_by told os rest = map told_id told ++ (map outcome_id os ++ map fetched_id rest)

abbrev ids_of : State → List HashId
ids_of s = ids_by s.told s.asking s.rest

cond_ids : (b : Bool) (x y : State) (l : List HashId) → ids_of x ≡ l → ids_of y ≡ l → ids_of (cond b x y) ≡ l
cond_ids true x y l e f = e
cond_ids false x y l e f = f

push_told : (told : List Told) (id : HashId) (w : What) (more : List HashId) → map told_id (told ++ told_as id w) ++ more ≡ map told_id told ++ id ∷ more
push_told [] id w more = refl
push_told (t ∷ ts) id w more = ap (λ (l : List HashId). t.id ∷ l) (push_told ts id w more)

settled_ids : (told : List Told) (os : List Outcome) (rest : List Fetched) → ids_of (settled told os rest) ≡ ids_by told os rest
settled_ids told [] rest = refl
settled_ids told (o ∷ os) rest = cond_ids (nat_eq o.outcome 3) (record { told = told; asking = o ∷ os; rest = rest }) (settled (told ++ told_as o.object.id (what_of o.outcome)) os rest) (ids_by told (o ∷ os) rest) refl
    (settled_ids (told ++ told_as o.object.id (what_of o.outcome)) os rest ∙ push_told told o.object.id (what_of o.outcome) (map outcome_id os ++ map fetched_id rest))

paired_ids : (os : List Fetched) (ns : List ℕ) → length ns ≡ length os → map outcome_id (paired os ns) ≡ map fetched_id os
paired_ids [] ns e = refl
paired_ids (o ∷ os) [] e = absurd (cc e)
paired_ids (o ∷ os) (n ∷ ns) e = ap (λ (l : List HashId). o.id ∷ l) (paired_ids os ns (omega (arith, e)))

cut_ids : (n : ℕ) (os : List Fetched) → map fetched_id (take n os) ++ map fetched_id (drop n os) ≡ map fetched_id os
cut_ids zero os = refl
cut_ids (suc n) [] = refl
cut_ids (suc n) (o ∷ os) = ap (λ (l : List HashId). o.id ∷ l) (cut_ids n os)

pub some_state : {x y : State} → Some x ≡ Some y → x ≡ y
some_state {x} {y} e = ap (get x) e
  where
    get : State → Option State → State
    get d None = d
    get d (Some s) = s

clash_ids : (s : State) (o : Fetched) (n : ℕ) (os : List Outcome) (found : Option (List ℕ)) (next : State) → after_clash s o os found ≡ Some next → s.asking ≡ record { object = o; outcome = n } ∷ os → ids_of next ≡ ids_of s
clash_ids s o n os None next e is = absurd (cc e)
clash_ids s o n os (Some t) next e is = ap ids_of (sym (some_state e)) ∙ settled_ids (s.told ++ told_as o.id (Clash t)) os s.rest ∙ push_told s.told o.id (Clash t) (map outcome_id os ++ map fetched_id s.rest) ∙ ap (λ (l : List Outcome). ids_by s.told l s.rest) (sym is)

pub and_left : (a b : Bool) (x y : List ℕ) → cond (a && b) (Some x) None ≡ Some y → (b ≡ true) × (x ≡ y)
and_left true true x y e = (refl, some_text e)
  where
    some_text : {x y : List ℕ} → Some x ≡ Some y → x ≡ y
    some_text {x} {y} e = ap (get x) e
      where
        get : List ℕ → Option (List ℕ) → List ℕ
        get d None = d
        get d (Some s) = s
and_left true false x y e = absurd (cc e)
and_left false b x y e = absurd (cc e)

eq_true : (a b : ℕ) → nat_eq a b ≡ true → a ≡ b
eq_true a b e = eqb-true a b e

pub and_first : (a b : Bool) → a && b ≡ true → a ≡ true
and_first true b e = refl
and_first false b e = e

pub outcome_count : (tag count : ℕ) (reply : Message) (ns : List ℕ) → outcomes_of tag count reply ≡ Some ns → length ns ≡ count
outcome_count tag count (Put other ns) ms e = let t = and_left (nat_eq other tag) (are_outcomes count ns) ns ms e in ap (λ (l : List ℕ). length l) (sym t.1) ∙ eq_true (length ns) count (and_first (nat_eq (length ns) count) _ t.0)
outcome_count tag count (GetTypes other ids) ms e = absurd (cc e)
outcome_count tag count (GetTypeDependencies other ids point) ms e = absurd (cc e)
outcome_count tag count (PutTypes other objects) ms e = absurd (cc e)
outcome_count tag count (Types other objects) ms e = absurd (cc e)
outcome_count tag count (Dependencies other needed point) ms e = absurd (cc e)

put_ids : (s : State) (found : Option (List ℕ)) (next : State) → after_put s found ≡ Some next → ((ns : List ℕ) → found ≡ Some ns → length ns ≡ length (batch s.rest)) → s.asking ≡ [] → ids_of next ≡ ids_of s
put_ids s None next e count is = absurd (cc e)
put_ids s (Some ns) next e count is =
    ap ids_of (sym (some_state e)) ∙ settled_ids s.told (paired (batch s.rest) ns) (drop (count_of s.rest) s.rest)
    ∙ ap (λ (l : List HashId). map told_id s.told ++ (l ++ map fetched_id (drop (count_of s.rest) s.rest))) (paired_ids (batch s.rest) ns (count ns refl))
    ∙ ap (λ (l : List HashId). map told_id s.told ++ l) (cut_ids (count_of s.rest) s.rest)
    ∙ ap (λ (l : List Outcome). ids_by s.told l s.rest) (sym is)

next_ids : (name : List ℕ → List ℕ) (tag : ℕ) (s : State) (reply : Message) (os : List Outcome) (next : State) → s.asking ≡ os → answered_by name tag s reply os ≡ Some next → ids_of next ≡ ids_of s
next_ids name tag s reply [] next is e = put_ids s (outcomes_of tag (length (batch s.rest)) reply) next e (outcome_count tag (length (batch s.rest)) reply) is
next_ids name tag s reply (o ∷ os) next is e = clash_ids s o.object o.outcome os (clash_of name tag o.object reply) next e is

pub done_told : {x y : List Told} → done x ≡ done y → x ≡ y
done_told {x} e = ap (get x) e
  where
    get : List Told → End → List Told
    get d (done t) = t
    get d bad = d
    get d waits = d

none_put : (tag : ℕ) (told : List Told) (rest : List Fetched) → put_request tag rest ≡ None → ids_by told [] rest ≡ map told_id told ++ []
none_put tag told [] e = refl
none_put tag told (o ∷ os) e = absurd (cc e)

none_left : (tag : ℕ) (told : List Told) (os : List Outcome) (rest : List Fetched) → request_by tag os rest ≡ None → ids_by told os rest ≡ map told_id told ++ []
none_left tag told [] rest e = none_put tag told rest e
none_left tag told (o ∷ os) rest e = absurd (cc e)

no_more : (l : List HashId) → l ++ [] ≡ l
no_more [] = refl
no_more (x ∷ xs) = ap (λ (l : List HashId). x ∷ l) (no_more xs)

done_ids : (tag : ℕ) (s : State) (told : List Told) → request tag s ≡ None → done s.told ≡ done told → map told_id told ≡ ids_of s
done_ids tag s told none e = ap (λ (l : List Told). map told_id l) (sym (done_told e)) ∙ sym (none_left tag s.told s.asking s.rest none ∙ no_more (map told_id s.told))

last_ids : (tag : ℕ) (s : State) (told : List Told) (r : Option Message) → request tag s ≡ r → (last_round s r).end ≡ done told → map told_id told ≡ ids_of s
last_ids tag s told None is e = done_ids tag s told is e
last_ids tag s told (Some m) is e = absurd (cc e)

round_ids : (tag : ℕ) (s : State) (told : List Told) (r : Option Message) (next : Option State) (more : State → Rounds) → request tag s ≡ r → ((t : State) → next ≡ Some t → ids_of t ≡ ids_of s) → ((t : State) → (more t).end ≡ done told → map told_id told ≡ ids_of t)
    → (round s r next more).end ≡ done told → map told_id told ≡ ids_of s
round_ids tag s told None next more is step rest e = done_ids tag s told is e
round_ids tag s told (Some m) None more is step rest e = absurd (cc e)
round_ids tag s told (Some m) (Some t) more is step rest e = rest t e ∙ step t refl

rounds_ids : (name : List ℕ → List ℕ) (messages : List Message) (tag : ℕ) (s : State) (told : List Told) → (rounds name tag s messages).end ≡ done told → map told_id told ≡ ids_of s
unfolding rounds
rounds_ids name [] tag s told e = last_ids tag s told (request tag s) refl e
rounds_ids name (m ∷ ms) tag s told e = round_ids tag s told (request tag s) (answered name tag s m) (λ next. rounds name (tag + 1) next ms) refl (λ t is. next_ids name tag s m s.asking t refl is) (λ t. rounds_ids name ms (tag + 1) t told) e

pub order : (name : List ℕ → List ℕ) (objects : List Fetched) (messages : List Message) (told : List Told) → (pushed name objects messages).end ≡ done told → map told_id told ≡ map fetched_id objects
order name objects messages told e = rounds_ids name messages 1 (start objects) told e
