-- What a push tells is what its replies say.
use Rattle.std.proofs.Common.{◌≡◌, ℕ, zero, suc, ◌+◌, Bool, true, false, ◌&&◌, not, cond, List, [], ◌∷◌, ◌++◌, map, length, take, drop, Option, refl, sym, ap, ap₂, subst, ◌∙◌, append_assoc, append-nil, arith}
use Rattle.std.specs.Prelude.{Some, None, nat_eq}
use Rattle.std.specs.Str.{bytes_eq}
use Rattle.object_formats.specs.Tables.{object_of}
use Rattle.type_trees.specs.declared.types.HashId.{HashId}
use Rattle.type_trees.specs.Ids.{same_id}
use Rattle.type_trees.proofs.SameIds.{same_is}
use Rattle.type_object.specs.Names.{named_by}
use Rattle.type_lookup.specs.declared.messages.messages.Fetched.{Fetched}
use Rattle.type_lookup.specs.declared.messages.messages.Message.{Message}
use Rattle.type_lookup.specs.declared.messages.messages.Message.TheVariants.{GetTypes, GetTypeDependencies, PutTypes, Types, Dependencies, Put}
use Rattle.lookup_fetch.specs.Rounds.{is_object}
use Rattle.type_mirror.specs.declared.told.told.Told.{Told}
use Rattle.type_mirror.specs.declared.told.told.What.TheVariants.{Clash}
use Rattle.type_mirror.specs.told.Rounds.{Outcome, State, told_as, what_of, settled, start, batch, count_of, paired, are_outcomes, outcomes_of, is_other, clash_in, clash_of, request, after_clash, after_put, answered_by, answered, done, Rounds, last_round, round, rounds, pushed}
use Rattle.type_mirror.specs.told.ByReplies.{outcomes_in, objects_in, clashing, told_by, replies_of}
use Rattle.type_mirror.proofs.OfTold.Ordering.{some_state, and_left, and_first, outcome_count, done_told}
use Rattle.type_mirror.proofs.OfTold.Session.{object_of_outcome, paired_objects, cut_at, cond_some, cond_other, none_rest, and_both}

abbrev outcome_in : Outcome → ℕ
outcome_in o = o.outcome

-- all that a state tells in the end, by the outcomes of what it has still to put, and by the peer's objects
abbrev told_from : List Told → List Outcome → List Fetched → List ℕ → List Fetched → List Told
told_from told os rest ns there = told ++ told_by (map object_of_outcome os ++ rest) (map outcome_in os ++ ns) there

abbrev told_of : State → List ℕ → List Fetched → List Told
told_of s ns there = told_from s.told s.asking s.rest ns there

-- the first that is asked for clashed
abbrev Clashed : List Outcome → Type 0
Clashed [] = Unit {0}
Clashed (o ∷ os) = nat_eq o.outcome 3 ≡ true

settled_tells : (told : List Told) (os : List Outcome) (rest : List Fetched) (ns : List ℕ) (there : List Fetched) → told_of (settled told os rest) ns there ≡ told_from told os rest ns there
settled_tells told [] rest ns there = refl
settled_tells told (o ∷ os) rest ns there =
    by (nat_eq o.outcome 3) refl (settled_tells (told ++ told_as o.object.id (what_of o.outcome)) os rest ns there ∙ append_assoc told (told_as o.object.id (what_of o.outcome)) (told_by (map object_of_outcome os ++ rest) (map outcome_in os ++ ns) there))
  where
    by : (b : Bool) → nat_eq o.outcome 3 ≡ b → told_of (settled (told ++ told_as o.object.id (what_of o.outcome)) os rest) ns there ≡ told ++ (told_as o.object.id (what_of o.outcome) ++ told_by (map object_of_outcome os ++ rest) (map outcome_in os ++ ns) there)
        → told_of (cond b (record { told = told; asking = o ∷ os; rest = rest }) (settled (told ++ told_as o.object.id (what_of o.outcome)) os rest)) ns there ≡ told_from told (o ∷ os) rest ns there
    by true e h = refl
    by false e h =
        let objects = map object_of_outcome os ++ rest in
        let outcomes = map outcome_in os ++ ns in
        h ∙ ap (λ (b : Bool). told ++ cond b (clashing there (told_by objects outcomes)) (told_as o.object.id (what_of o.outcome) ++ told_by objects outcomes there)) (sym e)

settled_clashed : (told : List Told) (os : List Outcome) (rest : List Fetched) → Clashed (settled told os rest).asking
settled_clashed told [] rest = tt
settled_clashed told (o ∷ os) rest = by (nat_eq o.outcome 3) refl (settled_clashed (told ++ told_as o.object.id (what_of o.outcome)) os rest)
  where
    by : (b : Bool) → nat_eq o.outcome 3 ≡ b → Clashed (settled (told ++ told_as o.object.id (what_of o.outcome)) os rest).asking → Clashed (cond b (record { told = told; asking = o ∷ os; rest = rest }) (settled (told ++ told_as o.object.id (what_of o.outcome)) os rest)).asking
    by true e h = e
    by false e h = h

-- ---- a clash

in_objects : (name : List ℕ → List ℕ) (o : Fetched) (objects : List Fetched) (t : List ℕ) → clash_in name o objects ≡ Some t → (there : Fetched) × (there.id ≡ o.id) × (there.octets ≡ t) × (objects ≡ there ∷ [])
in_objects name o [] t e = absurd (cc e)
in_objects name o (there ∷ []) t e =
    let d = cond_some (is_other name o there) there.octets t e in
    let same = and_both (is_object (object_of there.octets)) (same_id there.id o.id && (same_id there.id (named_by name there.octets) && not (bytes_eq there.octets o.octets))) d.0 in
    (there, same_is there.id o.id (and_first (same_id there.id o.id) (same_id there.id (named_by name there.octets) && not (bytes_eq there.octets o.octets)) same), d.1, refl)
in_objects name o (there ∷ (more ∷ others)) t e = absurd (cc e)

-- The reply has one object, the peer's under the identifier that clashed.
abbrev HasOther : Fetched → List ℕ → Message → Type 0
HasOther o t reply = (there : Fetched) × (there.id ≡ o.id) × (there.octets ≡ t) × ((replies : List Message) → (outcomes_in (reply ∷ replies) ≡ outcomes_in replies) × (objects_in (reply ∷ replies) ≡ there ∷ objects_in replies))

clash_is : (name : List ℕ → List ℕ) (tag : ℕ) (o : Fetched) (reply : Message) (t : List ℕ) → clash_of name tag o reply ≡ Some t → HasOther o t reply
clash_is name tag o (Types other objects) t e =
    let i = in_objects name o objects t (cond_other (nat_eq other tag) (clash_in name o objects) t e) in
    (i.0, i.1, i.2, λ (replies : List Message). (refl, ap (λ (l : List Fetched). l ++ objects_in replies) i.3))
clash_is name tag o (GetTypes other ids) t e = absurd (cc e)
clash_is name tag o (GetTypeDependencies other ids point) t e = absurd (cc e)
clash_is name tag o (PutTypes other objects) t e = absurd (cc e)
clash_is name tag o (Dependencies other needed point) t e = absurd (cc e)
clash_is name tag o (Put other outcomes) t e = absurd (cc e)

clash_tells : (name : List ℕ → List ℕ) (tag : ℕ) (s next : State) (o : Outcome) (os : List Outcome) (reply : Message) (replies : List Message) → s.asking ≡ o ∷ os → nat_eq o.outcome 3 ≡ true
    → (found : Option (List ℕ)) → clash_of name tag o.object reply ≡ found → after_clash s o.object os found ≡ Some next → told_of next (outcomes_in replies) (objects_in replies) ≡ told_of s (outcomes_in (reply ∷ replies)) (objects_in (reply ∷ replies))
clash_tells name tag s next o os reply replies is three None found e = absurd (cc e)
clash_tells name tag s next o os reply replies is three (Some t) found e =
    let i = clash_is name tag o.object reply t found in
    let ns = outcomes_in replies in
    let others = objects_in replies in
    let objects = map object_of_outcome os ++ s.rest in
    let outcomes = map outcome_in os ++ ns in
    let one = told_as o.object.id (Clash t) in
    let it = told_as i.0.id (Clash i.0.octets) in
    let same : one ≡ it = ap₂ (λ (h : HashId) (x : List ℕ). told_as h (Clash x)) (sym i.1) (sym i.2) in
    ap (λ (x : State). told_of x ns others) (sym (some_state e))
    ∙ settled_tells (s.told ++ one) os s.rest ns others
    ∙ append_assoc s.told one (told_by objects outcomes others)
    ∙ ap (λ (l : List Told). s.told ++ (l ++ told_by objects outcomes others)) same
    ∙ ap (λ (b : Bool). s.told ++ cond b (it ++ told_by objects outcomes others) (told_as o.object.id (what_of o.outcome) ++ told_by objects outcomes (i.0 ∷ others))) (sym three)
    ∙ ap (λ (l : List Outcome). told_from s.told l s.rest ns (i.0 ∷ others)) (sym is)
    ∙ ap₂ (λ (n : List ℕ) (l : List Fetched). told_from s.told s.asking s.rest n l) (sym (i.3 replies).0) (sym (i.3 replies).1)

-- ---- outcomes

paired_outcomes : (os : List Fetched) (ns : List ℕ) → length ns ≡ length os → map outcome_in (paired os ns) ≡ ns
paired_outcomes [] [] e = refl
paired_outcomes [] (n ∷ ns) e = absurd (cc e)
paired_outcomes (o ∷ os) [] e = absurd (cc e)
paired_outcomes (o ∷ os) (n ∷ ns) e = ap (λ (l : List ℕ). n ∷ l) (paired_outcomes os ns (omega (arith, e)))

put_is : (tag count : ℕ) (reply : Message) (ns : List ℕ) (replies : List Message) → outcomes_of tag count reply ≡ Some ns → (outcomes_in (reply ∷ replies) ≡ ns ++ outcomes_in replies) × (objects_in (reply ∷ replies) ≡ objects_in replies)
put_is tag count (Put other ms) ns replies e = (ap (λ (l : List ℕ). l ++ outcomes_in replies) (and_left (nat_eq other tag) (are_outcomes count ms) ms ns e).1, refl)
put_is tag count (Types other objects) ns replies e = absurd (cc e)
put_is tag count (GetTypes other ids) ns replies e = absurd (cc e)
put_is tag count (GetTypeDependencies other ids point) ns replies e = absurd (cc e)
put_is tag count (PutTypes other objects) ns replies e = absurd (cc e)
put_is tag count (Dependencies other needed point) ns replies e = absurd (cc e)

put_tells : (tag : ℕ) (s next : State) (reply : Message) (replies : List Message) → s.asking ≡ []
    → (found : Option (List ℕ)) → outcomes_of tag (length (batch s.rest)) reply ≡ found → after_put s found ≡ Some next → told_of next (outcomes_in replies) (objects_in replies) ≡ told_of s (outcomes_in (reply ∷ replies)) (objects_in (reply ∷ replies))
put_tells tag s next reply replies none None found e = absurd (cc e)
put_tells tag s next reply replies none (Some os) found e =
    let i = put_is tag (length (batch s.rest)) reply os replies found in
    let long = outcome_count tag (length (batch s.rest)) reply os found in
    let ns = outcomes_in replies in
    let others = objects_in replies in
    let later = drop (count_of s.rest) s.rest in
    ap (λ (x : State). told_of x ns others) (sym (some_state e))
    ∙ settled_tells s.told (paired (batch s.rest) os) later ns others
    ∙ ap₂ (λ (l : List Fetched) (n : List ℕ). s.told ++ told_by (l ++ later) (n ++ ns) others) (paired_objects (batch s.rest) os long) (paired_outcomes (batch s.rest) os long)
    ∙ ap (λ (l : List Fetched). s.told ++ told_by l (os ++ ns) others) (cut_at (count_of s.rest) s.rest)
    ∙ ap (λ (l : List Outcome). told_from s.told l s.rest (os ++ ns) others) (sym none)
    ∙ ap₂ (λ (n : List ℕ) (l : List Fetched). told_from s.told s.asking s.rest n l) (sym i.0) (sym i.1)

-- ---- one step

next_tells : (name : List ℕ → List ℕ) (tag : ℕ) (s next : State) (reply : Message) (replies : List Message) (os : List Outcome) → s.asking ≡ os → Clashed os → answered_by name tag s reply os ≡ Some next → told_of next (outcomes_in replies) (objects_in replies) ≡ told_of s (outcomes_in (reply ∷ replies)) (objects_in (reply ∷ replies))
next_tells name tag s next reply replies [] is c e = put_tells tag s next reply replies is (outcomes_of tag (length (batch s.rest)) reply) refl e
next_tells name tag s next reply replies (o ∷ os) is c e = clash_tells name tag s next o os reply replies is c (clash_of name tag o.object reply) refl e

clash_clashed : (s next : State) (o : Fetched) (os : List Outcome) (found : Option (List ℕ)) → after_clash s o os found ≡ Some next → Clashed next.asking
clash_clashed s next o os None e = absurd (cc e)
clash_clashed s next o os (Some t) e = subst (λ (x : State). Clashed x.asking) (some_state e) (settled_clashed (s.told ++ told_as o.id (Clash t)) os s.rest)

put_clashed : (s next : State) (found : Option (List ℕ)) → after_put s found ≡ Some next → Clashed next.asking
put_clashed s next None e = absurd (cc e)
put_clashed s next (Some ns) e = subst (λ (x : State). Clashed x.asking) (some_state e) (settled_clashed s.told (paired (batch s.rest) ns) (drop (count_of s.rest) s.rest))

next_clashed : (name : List ℕ → List ℕ) (tag : ℕ) (s next : State) (reply : Message) (os : List Outcome) → answered_by name tag s reply os ≡ Some next → Clashed next.asking
next_clashed name tag s next reply [] e = put_clashed s next (outcomes_of tag (length (batch s.rest)) reply) e
next_clashed name tag s next reply (o ∷ os) e = clash_clashed s next o.object os (clash_of name tag o.object reply) e

-- ---- all steps

at_end : (tag : ℕ) (s : State) (told : List Told) → request tag s ≡ None → done s.told ≡ done told → told ≡ told_of s [] []
at_end tag s told none e =
    sym (done_told e) ∙ sym (append-nil s.told) ∙ ap (λ (l : List Fetched). s.told ++ told_by l (map outcome_in s.asking ++ []) []) (sym (none_rest tag s.asking s.rest none))

at_last : (tag : ℕ) (s : State) (told : List Told) (r : Option Message) → request tag s ≡ r → (last_round s r).end ≡ done told → told ≡ told_of s [] []
at_last tag s told None is e = at_end tag s told is e
at_last tag s told (Some m) is e = absurd (cc e)

-- what is told by as many of these replies as there are requests
abbrev Tells : State → List Told → Rounds → List Message → Type 0
Tells s told all replies = told ≡ told_of s (outcomes_in (take (length all.requests) replies)) (objects_in (take (length all.requests) replies))

at_round : (name : List ℕ → List ℕ) (tag : ℕ) (s : State) (told : List Told) (reply : Message) (replies : List Message) (r : Option Message) (next : Option State) (more : State → Rounds) → request tag s ≡ r → Clashed s.asking → answered name tag s reply ≡ next
    → ((t : State) → Clashed t.asking → (more t).end ≡ done told → Tells t told (more t) replies) → (round s r next more).end ≡ done told → Tells s told (round s r next more) (reply ∷ replies)
at_round name tag s told reply replies None next more is c ans rest e = at_end tag s told is e
at_round name tag s told reply replies (Some m) None more is c ans rest e = absurd (cc e)
at_round name tag s told reply replies (Some m) (Some t) more is c ans rest e =
    rest t (next_clashed name tag s t reply s.asking ans) e ∙ next_tells name tag s t reply (take (length (more t).requests) replies) s.asking refl c ans

none_taken : (n : ℕ) → let none : List Message = [] in none ≡ take n none
none_taken zero = refl
none_taken (suc n) = refl

rounds_tell : (name : List ℕ → List ℕ) (messages : List Message) (tag : ℕ) (s : State) (told : List Told) → Clashed s.asking → (rounds name tag s messages).end ≡ done told → Tells s told (rounds name tag s messages) messages
unfolding rounds
rounds_tell name [] tag s told c e = subst (λ (l : List Message). told ≡ told_of s (outcomes_in l) (objects_in l)) (none_taken (length (last_round s (request tag s)).requests)) (at_last tag s told (request tag s) refl e)
rounds_tell name (m ∷ ms) tag s told c e = at_round name tag s told m ms (request tag s) (answered name tag s m) (λ next. rounds name (tag + 1) next ms) refl c refl (λ t d. rounds_tell name ms (tag + 1) t told d) e

pub by_replies : (name : List ℕ → List ℕ) (objects : List Fetched) (messages : List Message) (told : List Told) → (pushed name objects messages).end ≡ done told → told ≡ told_by objects (outcomes_in (replies_of name objects messages)) (objects_in (replies_of name objects messages))
by_replies name objects messages told e = rounds_tell name messages 1 (start objects) told tt e
