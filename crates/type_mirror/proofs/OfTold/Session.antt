-- What a push tells holds of the last state of one session.
use Rattle.std.proofs.Common.{◌≡◌, ◌≢◌, ◌≤◌, ◌+◌, ℕ, zero, suc, Bool, true, false, ◌&&◌, not, cond, List, [], ◌∷◌, ◌++◌, map, length, take, drop, Option, refl, sym, ap, subst, ◌∙◌, arith, eqb-true}
use mathlib.Core.Bool.{true≢false}
use Rattle.std.specs.Prelude.{Some, None, nat_eq, nat_lt}
use Rattle.std.specs.List.{All}
use Rattle.std.specs.Str.{bytes_eq}
use Rattle.std.proofs.lemmas.Slice.Eq.{bytes_eq-Decides}
use Rattle.std.proofs.lemmas.List.Elements.{All-nil, All-cons, All-head, All-tail}
use Rattle.object_formats.specs.Tables.{object_of}
use Rattle.type_trees.specs.Ids.{same_id}
use Rattle.type_object.specs.Names.{named_by}
use Rattle.type_registry.specs.Passed.{PassView, known, Keeps}
use Rattle.type_lookup.specs.declared.messages.messages.Fetched.{Fetched}
use Rattle.type_lookup.specs.declared.messages.messages.Message.{Message}
use Rattle.type_lookup.specs.declared.messages.messages.Message.TheVariants.{PutTypes, Types}
use Rattle.type_lookup.specs.messages.Spelling.{fetched_octets}
use Rattle.type_object.specs.visits.Visits.{Known as KnownBy}
use Rattle.lookup_service.specs.replies.Replies.{and_known, within, served, IsReply, AreOutcomes}
use Rattle.lookup_fetch.specs.Rounds.{is_object}
use Rattle.lookup_service.specs.States.{IsStep, Replied}
use Rattle.type_mirror.specs.declared.told.told.Told.{Told}
use Rattle.type_mirror.specs.declared.told.told.What.{What}
use Rattle.type_mirror.specs.declared.told.told.What.TheVariants.{Added, Known, Clash, Full}
use Rattle.type_mirror.specs.told.Pushes.{IsOwn, MayPush}
use Rattle.type_mirror.specs.told.Tells.{Holds, IsTold}
use Rattle.type_mirror.specs.told.Rounds.{Outcome, State, told_as, what_of, settled, start, batch, count_of, octets_of, paired, are_outcomes, outcomes_of, is_other, clash_in, clash_of, put_request, request_by, request, after_clash, after_put, answered_by, answered, done, Rounds, last_round, round, rounds, pushed, requests_of}
use Rattle.type_mirror.proofs.OfTold.Ordering.{some_state, and_left, outcome_count, done_told}

-- ---- what is known stays known

holds_more : (old new : KnownBy) (o : Fetched) (w : What) → Keeps old new → Holds old o w → Holds new o w
holds_more old new o Added k h = k o.id o.octets h
holds_more old new o Known k h = k o.id o.octets h
holds_more old new o (Clash t) k h = (k o.id t h.0, h.1)
holds_more old new o Full k h = tt

told_more : (old new : KnownBy) (os : List Fetched) (ts : List Told) → Keeps old new → IsTold old os ts → IsTold new os ts
told_more old new [] [] k h = tt
told_more old new [] (t ∷ ts) k h = absurd h
told_more old new (o ∷ os) [] k h = absurd h
told_more old new (o ∷ os) (t ∷ ts) k h = (h.0, holds_more old new o t.what k h.1, told_more old new os ts k h.2)

one_told : (k : KnownBy) (os : List Fetched) (ts : List Told) (o : Fetched) (w : What) → IsTold k os ts → Holds k o w → IsTold k (os ++ o ∷ []) (ts ++ told_as o.id w)
one_told k [] [] o w h now = (refl, now, tt)
one_told k [] (t ∷ ts) o w h now = absurd h
one_told k (x ∷ os) [] o w h now = absurd h
one_told k (x ∷ os) (t ∷ ts) o w h now = (h.0, h.1, one_told k os ts o w h.2 now)

abbrev Kept : KnownBy → Outcome → Type 0
Kept k o = o.outcome ≤ 1 → k o.object.id ≡ Some o.object.octets

holds_what : (k : KnownBy) (o : Fetched) (n : ℕ) → (n ≤ 1 → k o.id ≡ Some o.octets) → Holds k o (what_of n)
holds_what k o n h = by (nat_eq n 0) (nat_eq n 1) refl refl
  where
    by : (a b : Bool) → nat_eq n 0 ≡ a → nat_eq n 1 ≡ b → Holds k o (cond a Added (cond b Known Full))
    by true b e f = let z = eqb-true n 0 e in h (omega (arith, z))
    by false true e f = let z = eqb-true n 1 f in h (omega (arith, z))
    by false false e f = tt

abbrev pub object_of_outcome : Outcome → Fetched
object_of_outcome o = o.object

-- ---- how far a push has come

record Inv (name : List ℕ → List ℕ) (objects : List Fetched) (k : KnownBy) (s : State) : Type 0 where
  before : List Fetched
  cut : objects ≡ before ++ (map object_of_outcome s.asking ++ s.rest)
  told : IsTold k before s.told
  kept : All (Kept k) s.asking
  own : All (IsOwn name) s.rest

cond_inv : (name : List ℕ → List ℕ) (objects : List Fetched) (k : KnownBy) (b : Bool) (x y : State) → Inv name objects k x → Inv name objects k y → Inv name objects k (cond b x y)
cond_inv name objects k true x y p q = p
cond_inv name objects k false x y p q = q

shift : (xs ys : List Fetched) (o : Fetched) → xs ++ (o ∷ ys) ≡ (xs ++ o ∷ []) ++ ys
shift [] ys o = refl
shift (x ∷ xs) ys o = ap (λ (l : List Fetched). x ∷ l) (shift xs ys o)

inv_settled : (name : List ℕ → List ℕ) (objects : List Fetched) (k : KnownBy) (os : List Outcome) (before : List Fetched) (told : List Told) (rest : List Fetched) → objects ≡ before ++ (map object_of_outcome os ++ rest) → IsTold k before told → All (Kept k) os → All (IsOwn name) rest
    → Inv name objects k (settled told os rest)
inv_settled name objects k [] before told rest cut is kept own = record { before = before; cut = cut; told = is; kept = kept; own = own }
inv_settled name objects k (o ∷ os) before told rest cut is kept own = cond_inv name objects k (nat_eq o.outcome 3) (record { told = told; asking = o ∷ os; rest = rest }) (settled (told ++ told_as o.object.id (what_of o.outcome)) os rest)
    (record { before = before; cut = cut; told = is; kept = kept; own = own })
    (inv_settled name objects k os (before ++ o.object ∷ []) (told ++ told_as o.object.id (what_of o.outcome)) rest (cut ∙ shift before (map object_of_outcome os ++ rest) o.object)
    (one_told k before told o.object (what_of o.outcome) is (holds_what k o.object o.outcome (All-head (Kept k) o os kept))) (All-tail (Kept k) o os kept) own)

-- ---- a clash

pub and_both : (a b : Bool) → a && b ≡ true → b ≡ true
and_both true b e = e
and_both false b e = absurd (cc e)

not_true : (b : Bool) → not b ≡ true → b ≡ false
not_true true e = absurd (cc e)
not_true false e = refl

some_text : {x y : List ℕ} → Some x ≡ Some y → x ≡ y
some_text {x} e = ap (get x) e
  where
    get : List ℕ → Option (List ℕ) → List ℕ
    get d None = d
    get d (Some s) = s

pub cond_some : (b : Bool) (x t : List ℕ) → cond b (Some x) None ≡ Some t → (b ≡ true) × (x ≡ t)
cond_some true x t e = (refl, some_text e)
cond_some false x t e = absurd (cc e)

differs : (x y : List ℕ) → not (bytes_eq x y) ≡ true → x ≢ y
differs x y e w = absurd (true≢false (sym ((bytes_eq-Decides x y).1 w) ∙ not_true (bytes_eq x y) e))

clash_known : (name : List ℕ → List ℕ) (o : Fetched) (k : Option (List ℕ)) (t : List ℕ) → clash_in name o (within 262131 (and_known o.id k [])) ≡ Some t → (k ≡ Some t) × (t ≢ o.octets)
clash_known name o None t e = absurd (cc e)
clash_known name o (Some x) t e = by (nat_lt 262131 (length (fetched_octets (record { id = o.id; octets = x })))) e
  where
    by : (b : Bool) → clash_in name o (cond b [] (record { id = o.id; octets = x } ∷ [])) ≡ Some t → (Some x ≡ Some t) × (t ≢ o.octets)
    by true h = absurd (cc h)
    by false h = let d = cond_some (is_other name o (record { id = o.id; octets = x })) x t h in
        let n = and_both (same_id o.id (named_by name x)) _ (and_both (same_id o.id o.id) _ (and_both (is_object (object_of x)) _ d.0)) in
        (ap (λ (l : List ℕ). Some l) d.1, subst (λ (l : List ℕ). l ≢ o.octets) d.1 (differs x o.octets n))

pub cond_other : (b : Bool) (o : Option (List ℕ)) (t : List ℕ) → cond b o None ≡ Some t → o ≡ Some t
cond_other true o t e = e
cond_other false o t e = absurd (cc e)

served_clash : (name : List ℕ → List ℕ) (tag : ℕ) (o : Fetched) (k : KnownBy) (reply : Message) (t : List ℕ) → reply ≡ Types tag (served k (o.id ∷ [])) → clash_of name tag o reply ≡ Some t → Holds k o (Clash t)
unfolding served
served_clash name tag o k reply t is e = clash_known name o (k o.id) t (cond_other (nat_eq tag tag) _ t (ap (clash_of name tag o) (sym is) ∙ e))

-- ---- outcomes

pub paired_objects : (os : List Fetched) (ns : List ℕ) → length ns ≡ length os → map object_of_outcome (paired os ns) ≡ os
paired_objects [] ns e = refl
paired_objects (o ∷ os) [] e = absurd (cc e)
paired_objects (o ∷ os) (n ∷ ns) e = ap (λ (l : List Fetched). o ∷ l) (paired_objects os ns (omega (arith, e)))

pub cut_at : (n : ℕ) (os : List Fetched) → take n os ++ drop n os ≡ os
cut_at zero os = refl
cut_at (suc n) [] = refl
cut_at (suc n) (o ∷ os) = ap (λ (l : List Fetched). o ∷ l) (cut_at n os)

own_take : (name : List ℕ → List ℕ) (n : ℕ) (os : List Fetched) → All (IsOwn name) os → All (IsOwn name) (take n os) × All (IsOwn name) (drop n os)
own_take name zero os h = (All-nil (IsOwn name), h)
own_take name (suc n) [] h = (All-nil (IsOwn name), All-nil (IsOwn name))
own_take name (suc n) (o ∷ os) h = let r = own_take name n os (All-tail (IsOwn name) o os h) in (All-cons (IsOwn name) o (take n os) (All-head (IsOwn name) o os h) r.0, r.1)

all_kept : (name : List ℕ → List ℕ) (before : KnownBy) (now : PassView) (os : List Fetched) (ns : List ℕ) → All (IsOwn name) os → AreOutcomes name before now (map octets_of os) ns → All (Kept (known now)) (paired os ns)
all_kept name before now [] ns own h = All-nil (Kept (known now))
all_kept name before now (o ∷ os) [] own h = All-nil (Kept (known now))
all_kept name before now (o ∷ os) (n ∷ ns) own h =
    All-cons (Kept (known now)) (record { object = o; outcome = n }) (paired os ns) (λ le. ap (known now) (All-head (IsOwn name) o os own).named ∙ h.0.kept le) (all_kept name before now os ns (All-tail (IsOwn name) o os own) h.1)

-- ---- one step

put_step : (name : List ℕ → List ℕ) (objects : List Fetched) (tag : ℕ) (p q : PassView) (s next : State) (reply : Message) → Inv name objects (known p) s → s.asking ≡ [] → Keeps (known p) (known q) → IsReply name (known p) q (PutTypes tag (map octets_of (batch s.rest))) reply
    → (found : Option (List ℕ)) → outcomes_of tag (length (batch s.rest)) reply ≡ found → after_put s found ≡ Some next → Inv name objects (known q) next
put_step name objects tag p q s next reply i none grows r None is e = absurd (cc e)
put_step name objects tag p q s next reply i none grows r (Some ns) is e =
    let t = and_left (nat_eq tag tag) (are_outcomes (length (batch s.rest)) r.0) r.0 ns (ap (outcomes_of tag (length (batch s.rest))) (sym r.1) ∙ is) in
    let long = outcome_count tag (length (batch s.rest)) reply ns is in
    let own = own_take name (count_of s.rest) s.rest i.own in
    subst (λ (x : State). Inv name objects (known q) x) (some_state e)
    (inv_settled name objects (known q) (paired (batch s.rest) ns) i.before s.told (drop (count_of s.rest) s.rest)
    (i.cut ∙ ap (λ (l : List Outcome). i.before ++ (map object_of_outcome l ++ s.rest)) none ∙ ap (λ (l : List Fetched). i.before ++ l) (sym (cut_at (count_of s.rest) s.rest)) ∙ ap (λ (l : List Fetched). i.before ++ (l ++ drop (count_of s.rest) s.rest)) (sym (paired_objects (batch s.rest) ns long)))
    (told_more (known p) (known q) i.before s.told grows i.told)
    (all_kept name (known p) q (batch s.rest) ns own.0 (subst (λ (l : List ℕ). AreOutcomes name (known p) q (map octets_of (batch s.rest)) l) t.1 r.2))
    own.1)

all_more : (old new : KnownBy) (os : List Outcome) → Keeps old new → All (Kept old) os → All (Kept new) os
all_more old new [] k h = All-nil (Kept new)
all_more old new (o ∷ os) k h = All-cons (Kept new) o os (λ le. k o.object.id o.object.octets (All-head (Kept old) o os h le)) (all_more old new os k (All-tail (Kept old) o os h))

get_step : (name : List ℕ → List ℕ) (objects : List Fetched) (tag : ℕ) (p q : PassView) (s next : State) (reply : Message) (o : Outcome) (os : List Outcome) → Inv name objects (known p) s → s.asking ≡ o ∷ os → Keeps (known p) (known q) → reply ≡ Types tag (served (known q) (o.object.id ∷ []))
    → (found : Option (List ℕ)) → clash_of name tag o.object reply ≡ found → after_clash s o.object os found ≡ Some next → Inv name objects (known q) next
get_step name objects tag p q s next reply o os i some grows r None is e = absurd (cc e)
get_step name objects tag p q s next reply o os i some grows r (Some t) is e =
    subst (λ (x : State). Inv name objects (known q) x) (some_state e)
    (inv_settled name objects (known q) os (i.before ++ o.object ∷ []) (s.told ++ told_as o.object.id (Clash t)) s.rest
    (i.cut ∙ ap (λ (l : List Outcome). i.before ++ (map object_of_outcome l ++ s.rest)) some ∙ shift i.before (map object_of_outcome os ++ s.rest) o.object)
    (one_told (known q) i.before s.told o.object (Clash t) (told_more (known p) (known q) i.before s.told grows i.told) (served_clash name tag o.object (known q) reply t r is))
    (all_more (known p) (known q) os grows (All-tail (Kept (known p)) o os (subst (λ (l : List Outcome). All (Kept (known p)) l) some i.kept)))
    i.own)

some_message : {x y : Message} → Some x ≡ Some y → x ≡ y
some_message {x} e = ap (get x) e
  where
    get : Message → Option Message → Message
    get d None = d
    get d (Some s) = s

put_of : (tag : ℕ) (rest : List Fetched) (m : Message) → put_request tag rest ≡ Some m → m ≡ PutTypes tag (map octets_of (batch rest))
put_of tag [] m e = absurd (cc e)
put_of tag (o ∷ os) m e = sym (some_message e)

step : (name : List ℕ → List ℕ) (objects : List Fetched) (tag : ℕ) (p q : PassView) (s next : State) (m reply : Message) (os : List Outcome) → Inv name objects (known p) s → s.asking ≡ os → request_by tag os s.rest ≡ Some m → IsStep name p q m reply → answered_by name tag s reply os ≡ Some next → Inv name objects (known q) next
step name objects tag p q s next m reply [] i is r st e = put_step name objects tag p q s next reply i is st.grows.known (subst (λ (x : Message). IsReply name (known p) q x reply) (put_of tag s.rest m r) st.replies) (outcomes_of tag (length (batch s.rest)) reply) refl e
step name objects tag p q s next m reply (o ∷ os) i is r st e = get_step name objects tag p q s next reply o os i is st.grows.known (subst (λ (x : Message). IsReply name (known p) q x reply) (sym (some_message r)) st.replies) (clash_of name tag o.object reply) refl e

-- ---- all steps

pub none_rest : (tag : ℕ) (os : List Outcome) (rest : List Fetched) → request_by tag os rest ≡ None → map object_of_outcome os ++ rest ≡ []
none_rest tag [] [] e = refl
none_rest tag [] (o ∷ rest) e = absurd (cc e)
none_rest tag (o ∷ os) rest e = absurd (cc e)

no_more : (l : List Fetched) → l ++ [] ≡ l
no_more [] = refl
no_more (x ∷ xs) = ap (λ (l : List Fetched). x ∷ l) (no_more xs)

at_done : (name : List ℕ → List ℕ) (objects : List Fetched) (tag : ℕ) (p : PassView) (s : State) (told : List Told) → Inv name objects (known p) s → request tag s ≡ None → done s.told ≡ done told → IsTold (known p) objects told
at_done name objects tag p s told i none e =
    let all = i.cut ∙ ap (λ (l : List Fetched). i.before ++ l) (none_rest tag s.asking s.rest none) ∙ no_more i.before in
    subst (λ (l : List Told). IsTold (known p) objects l) (done_told e) (subst (λ (l : List Fetched). IsTold (known p) l s.told) (sym all) i.told)

at_last : (name : List ℕ → List ℕ) (objects : List Fetched) (tag : ℕ) (p last : PassView) (s : State) (told : List Told) (r : Option Message) → Inv name objects (known p) s → request tag s ≡ r → Replied name p (last_round s r).requests [] last → (last_round s r).end ≡ done told → IsTold (known last) objects told
at_last name objects tag p last s told None i is rep e = subst (λ (x : PassView). IsTold (known x) objects told) (sym rep) (at_done name objects tag p s told i is e)
at_last name objects tag p last s told (Some m) i is rep e = absurd (cc e)

at_round : (name : List ℕ → List ℕ) (objects : List Fetched) (tag : ℕ) (p last : PassView) (s : State) (told : List Told) (reply : Message) (replies : List Message) (r : Option Message) (next : Option State) (more : State → Rounds) → Inv name objects (known p) s → request tag s ≡ r → answered name tag s reply ≡ next
    → ((q : PassView) (t : State) → Inv name objects (known q) t → Replied name q (more t).requests replies last → (more t).end ≡ done told → IsTold (known last) objects told)
    → Replied name p (round s r next more).requests (reply ∷ replies) last → (round s r next more).end ≡ done told → IsTold (known last) objects told
at_round name objects tag p last s told reply replies None next more i is ans rest rep e = absurd rep
at_round name objects tag p last s told reply replies (Some m) None more i is ans rest rep e = absurd (cc e)
at_round name objects tag p last s told reply replies (Some m) (Some t) more i is ans rest rep e = rest rep.0 t (step name objects tag p rep.0 s t m reply s.asking i refl is rep.1 ans) rep.2 e

all_rounds : (name : List ℕ → List ℕ) (objects : List Fetched) (messages : List Message) (tag : ℕ) (p last : PassView) (s : State) (told : List Told) → Inv name objects (known p) s → Replied name p (rounds name tag s messages).requests messages last → (rounds name tag s messages).end ≡ done told → IsTold (known last) objects told
unfolding rounds
all_rounds name objects [] tag p last s told i rep e = at_last name objects tag p last s told (request tag s) i refl rep e
all_rounds name objects (m ∷ ms) tag p last s told i rep e = at_round name objects tag p last s told m ms (request tag s) (answered name tag s m) (λ next. rounds name (tag + 1) next ms) i refl refl (λ q t j r d. all_rounds name objects ms (tag + 1) q last t told j r d) rep e

pub session : (name : List ℕ → List ℕ) (objects : List Fetched) (messages : List Message) (told : List Told) (entry last : PassView) → MayPush name objects → (pushed name objects messages).end ≡ done told → Replied name entry (requests_of name objects messages) messages last → IsTold (known last) objects told
session name objects messages told entry last may e rep =
    all_rounds name objects messages 1 entry last (start objects) told (record { before = []; cut = refl; told = tt; kept = All-nil (Kept (known entry)); own = may.own }) rep e
