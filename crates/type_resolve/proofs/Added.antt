-- Texts that are added one after another.
use Rattle.std.proofs.Common.{◌≡◌, ℕ, List, [], ◌∷◌, ◌++◌, Option, Some, None, refl, sym, ap, subst, ◌∙◌, append_assoc}
use Rattle.std.proofs.lemmas.List.{append-nil}
use Rattle.std.specs.Prelude.{Result, Ok, Err, IfOk, IfErr, OnErr, Bool, true, false, cond, length, nat_le, nat_eq}
use Rattle.std.specs.Cmp.Lexicographic.{pointwise}
use Rattle.type_trees.specs.declared.types.HashId.{HashId}
use Rattle.object_formats.specs.declared.faults.Fault.{Fault}
use Rattle.object_formats.specs.Objects.{Object}
use Rattle.object_formats.specs.Tables.{object_of}
use Rattle.type_object.specs.Names.{named}
use Rattle.type_object.specs.Faults.{Refuses}
use Rattle.type_object.specs.Pools.{Texts, Refusal, clash, full, found, put, added, added_so}
use Rattle.type_object.specs.declared.pool.PoolFault.{PoolFault}
use Rattle.type_object.specs.declared.pool.PoolFault.TheVariants as F
use Rattle.type_resolve.specs.Adding.{after_added, all_added, Adds, Begins, Stops, Halts}
use Rattle.type_resolve.specs.Views.{Makes, Stores, itself}

-- ---- one list behind another

after_ok : (r : Result (HashId × Texts) Refusal) (a b : Texts) (xs ys : List (List ℕ)) → ((p : Texts) → all_added p xs ≡ (b, None) → all_added p (xs ++ ys) ≡ all_added b ys)
    → after_added a r (λ p. all_added p xs) ≡ (b, None) → after_added a r (λ p. all_added p (xs ++ ys)) ≡ all_added b ys
after_ok (Ok r) a b xs ys more e = more r.1 e
after_ok (Err f) a b xs ys more e = let apart : Some f ≡ None = ap (λ (p : Texts × Option Refusal). p.1) e in absurd cc

all_behind : (a b : Texts) (xs ys : List (List ℕ)) → all_added a xs ≡ (b, None) → all_added a (xs ++ ys) ≡ all_added b ys
unfolding all_added
all_behind a b [] ys e = ap (λ (p : Texts × Option Refusal). all_added p.0 ys) e
all_behind a b (x ∷ xs) ys e = after_ok (added a x) a b xs ys (λ p. all_behind p b xs ys) e

after_err : (r : Result (HashId × Texts) Refusal) (a b : Texts) (f : Refusal) (xs ys : List (List ℕ)) → ((p : Texts) → all_added p xs ≡ (b, Some f) → all_added p (xs ++ ys) ≡ (b, Some f))
    → after_added a r (λ p. all_added p xs) ≡ (b, Some f) → after_added a r (λ p. all_added p (xs ++ ys)) ≡ (b, Some f)
after_err (Ok r) a b f xs ys more e = more r.1 e
after_err (Err g) a b f xs ys more e = e

all_stopped : (a b : Texts) (f : Refusal) (xs ys : List (List ℕ)) → all_added a xs ≡ (b, Some f) → all_added a (xs ++ ys) ≡ (b, Some f)
unfolding all_added
all_stopped a b f [] ys e = let apart : None ≡ Some f = ap (λ (p : Texts × Option Refusal). p.1) e in absurd cc
all_stopped a b f (x ∷ xs) ys e = after_err (added a x) a b f xs ys (λ p. all_stopped p b f xs ys) e

pub adds_none : (a : Texts) → Adds a [] a
unfolding all_added
adds_none a = record { all = refl }

pub adds_then : (a b c : Texts) (xs ys : List (List ℕ)) → Adds a xs b → Adds b ys c → Adds a (xs ++ ys) c
adds_then a b c xs ys h k = record { all = all_behind a b xs ys h.all ∙ k.all }

pub begins_none : (a : Texts) (xs : List (List ℕ)) → Begins a xs a
begins_none a xs = record { before = []; after = xs; parts = refl; adds = adds_none a }

pub begins_all : (a b : Texts) (xs ys : List (List ℕ)) → Adds a xs b → Begins a (xs ++ ys) b
begins_all a b xs ys h = record { before = xs; after = ys; parts = refl; adds = h }

pub begins_then : (a b c : Texts) (xs ys : List (List ℕ)) → Adds a xs b → Begins b ys c → Begins a (xs ++ ys) c
begins_then a b c xs ys h k = record { before = xs ++ k.before; after = k.after; parts = ap (λ zs. xs ++ zs) k.parts ∙ sym (append_assoc xs k.before k.after); adds = adds_then a b c xs k.before h k.adds }

pub begins_front : (a b : Texts) (xs ys : List (List ℕ)) → Begins a xs b → Begins a (xs ++ ys) b
begins_front a b xs ys h = record { before = h.before; after = h.after ++ ys; parts = ap (λ zs. zs ++ ys) h.parts ∙ append_assoc h.before h.after ys; adds = h.adds }

stops_then : (a b c : Texts) (f : Refusal) (xs ys : List (List ℕ)) → Adds a xs b → Stops b ys c f → Stops a (xs ++ ys) c f
stops_then a b c f xs ys h k = record { first = all_behind a b xs ys h.all ∙ k.first }

stops_front : (a b : Texts) (f : Refusal) (xs ys : List (List ℕ)) → Stops a xs b f → Stops a (xs ++ ys) b f
stops_front a b f xs ys h = record { first = all_stopped a b f xs ys h.first }

pub halts_then : (fault : PoolFault) (a b c : Texts) (xs ys : List (List ℕ)) → Adds a xs b → Halts fault b ys c → Halts fault a (xs ++ ys) c
halts_then (F.Object fault) a b c xs ys h k = stops_then a b c _ xs ys h k
halts_then (F.Clash id) a b c xs ys h k = stops_then a b c _ xs ys h k
halts_then F.Full a b c xs ys h k = stops_then a b c _ xs ys h k
halts_then F.OutOfMemory a b c xs ys h k = begins_then a b c xs ys h k

pub halts_front : (fault : PoolFault) (a b : Texts) (xs ys : List (List ℕ)) → Halts fault a xs b → Halts fault a (xs ++ ys) b
halts_front (F.Object fault) a b xs ys h = stops_front a b _ xs ys h
halts_front (F.Clash id) a b xs ys h = stops_front a b _ xs ys h
halts_front F.Full a b xs ys h = stops_front a b _ xs ys h
halts_front F.OutOfMemory a b xs ys h = begins_front a b xs ys h

-- memory was wanting when these were added
pub halts_free : (fault : PoolFault) (a b : Texts) (xs ys : List (List ℕ)) → fault ≡ F.OutOfMemory → Adds a xs b → Halts fault a (xs ++ ys) b
halts_free fault a b xs ys e h = subst (λ f. Halts f a (xs ++ ys) b) (sym e) (begins_all a b xs ys h)

pub halts_after : (fault : PoolFault) (a b : Texts) (xs : List (List ℕ)) → fault ≡ F.OutOfMemory → Adds a xs b → Halts fault a xs b
halts_after fault a b xs e h = subst (λ zs. Halts fault a zs b) (append-nil xs) (halts_free fault a b xs [] e h)

-- ---- what a call answered

pub stores_then : {X Y : Type 0} (view : X → Y) (r : Result X PoolFault) (a b c : Texts) (xs ys : List (List ℕ)) (y : Y) → Adds a xs b → Stores view r b ys c y → Stores view r a (xs ++ ys) c y
stores_then view (Ok x) a b c xs ys y h k = (adds_then a b c xs ys h k.0, k.1)
stores_then view (Err f) a b c xs ys y h k = halts_then f a b c xs ys h k

-- what was made after texts were added
pub stores_made : {X Y : Type 0} (view : X → Y) (r : Result X PoolFault) (a b : Texts) (xs : List (List ℕ)) (y z : Y) → Adds a xs b → Makes view r y → y ≡ z → Stores view r a xs b z
stores_made view (Ok x) a b xs y z h k e = (h, k ∙ e)
stores_made view (Err f) a b xs y z h k e = halts_after f a b xs k h

-- ---- one text

abbrev answer : HashId → Texts → Result (HashId × Texts) Refusal
answer id p = Ok (id, p)

answer_in : (a b : HashId × Texts) → answer a.0 a.1 ≡ answer b.0 b.1 → a.0 ≡ b.0
answer_in a b e = ap (λ (x : HashId × Texts). x.0) (by a b e)
  where
    by : (a b : HashId × Texts) → answer a.0 a.1 ≡ answer b.0 b.1 → a ≡ b
    by a b e = cc

put_is : (pool new : Texts) (id i : HashId) (bs : List ℕ) (there : Option (List ℕ)) → put pool id bs there ≡ Ok (i, new) → i ≡ id
put_is pool new id i bs None e = by (nat_le 4096 (length pool)) e
  where
    by : (b : Bool) → cond b (Err full) (answer id (pool ++ (id, bs) ∷ [])) ≡ Ok (i, new) → i ≡ id
    by true e = absurd cc
    by false e = sym (answer_in (id, pool ++ (id, bs) ∷ []) (i, new) e)
put_is pool new id i bs (Some t) e = by (pointwise nat_eq t bs) e
  where
    by : (b : Bool) → cond b (answer id pool) (Err (clash id)) ≡ Ok (i, new) → i ≡ id
    by true e = sym (answer_in (id, pool) (i, new) e)
    by false e = absurd cc

so_named : (pool new : Texts) (i : HashId) (bs : List ℕ) (read : Result Object Fault) → added_so pool bs read ≡ Ok (i, new) → i ≡ named bs
so_named pool new i bs (Err f) e = absurd cc
so_named pool new i bs (Ok o) e = put_is pool new (named bs) i bs (found (named bs) pool) e

pub is_named : (pool new : Texts) (i : HashId) (bs : List ℕ) → added pool bs ≡ Ok (i, new) → i ≡ named bs
unfolding added
is_named pool new i bs e = so_named pool new i bs (object_of bs) e

pub adds_one : (pool new : Texts) (i : HashId) (bs : List ℕ) → added pool bs ≡ Ok (i, new) → Adds pool (bs ∷ []) new
unfolding all_added
adds_one pool new i bs e = record { all = ap (λ r. after_added pool r (λ p. all_added p [])) e }

stops_one : (pool : Texts) (f : Refusal) (bs : List ℕ) → added pool bs ≡ Err f → Stops pool (bs ∷ []) pool f
unfolding all_added
stops_one pool f bs e = record { first = ap (λ r. after_added pool r (λ p. all_added p [])) e }

pub halts_one : (fault : PoolFault) (pool : Texts) (bs : List ℕ) → Refuses fault (added pool bs) → Halts fault pool (bs ∷ []) pool
halts_one (F.Object fault) pool bs e = stops_one pool _ bs e
halts_one (F.Clash id) pool bs e = stops_one pool _ bs e
halts_one F.Full pool bs e = stops_one pool _ bs e
halts_one F.OutOfMemory pool bs e = begins_none pool (bs ∷ [])

-- what a pool answers to one text
pub stores_one : (r : Result HashId PoolFault) (old new : Texts) (bs cs : List ℕ) → bs ≡ cs → IfOk r (λ id. added old bs ≡ Ok (id, new)) → IfErr r (λ fault. Refuses fault (added old bs)) → OnErr r (new ≡ old) → Stores itself r old (cs ∷ []) new (named cs)
stores_one r old new bs cs is ok err same = subst (λ t. Stores itself r old (t ∷ []) new (named t)) is (by r ok err same)
  where
    by : (r : Result HashId PoolFault) → IfOk r (λ id. added old bs ≡ Ok (id, new)) → IfErr r (λ fault. Refuses fault (added old bs)) → OnErr r (new ≡ old) → Stores itself r old (bs ∷ []) new (named bs)
    by (Ok id) ok err same = (adds_one old new id bs ok, is_named old new id bs ok)
    by (Err f) ok err same = subst (λ p. Halts f old (bs ∷ []) p) (sym same) (halts_one f old bs err)

-- a fault that is passed on
pub stores_err : {X Y : Type 0} (view : X → Y) (r : Result X PoolFault) (e f : PoolFault) (old new : Texts) (xs : List (List ℕ)) (y : Y) → r ≡ Err e → e ≡ f → Halts f old xs new → Stores view r old xs new y
stores_err view r e f old new xs y is same h = subst (λ s. Stores view s old xs new y) (sym is) (subst (λ g. Halts g old xs new) (sym same) h)

pub ruleset added_rules = (adds_none, adds_then, begins_none, halts_then, halts_front, halts_after, stores_then, stores_made, stores_one)
