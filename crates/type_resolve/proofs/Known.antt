-- What is known of types stays true as texts are added, and adding their texts again changes nothing.
use Rattle.std.proofs.Common.{◌≡◌, ℕ, List, [], ◌∷◌, Option, Some, None, refl, sym, ap, subst, ◌∙◌}
use Rattle.std.specs.Prelude.{cond, Result, Ok, Err, IfSome, ◌<◌, length}
use lib.ListN.{get_or}
use Rattle.std.proofs.lemmas.Slice.Eq.{bytes_eq-Decides}
use Rattle.type_trees.specs.declared.types.HashId.{HashId}
use Rattle.type_trees.specs.Trees.{Tree}
use Rattle.type_trees.specs.View.{tree}
use Rattle.type_object.specs.Names.{named}
use Rattle.type_object.specs.Pools.{Texts, Refusal, clash, found, put, added, added_so}
use Rattle.type_object.specs.declared.pool.PoolFault.{PoolFault}
use Rattle.type_object.specs.declared.pool.PoolFault.TheVariants as F
use Rattle.type_resolve.specs.Adding.{after_added, all_added, Adds, Halts}
use Rattle.type_resolve.specs.Objects.{texts}
use Rattle.type_resolve.specs.Views.{Stores, sides, hashes_seen}
use Rattle.type_resolve.specs.declared.sides.Identifiers.{Identifiers}
use Rattle.type_resolve.specs.Held.{IsHeld, AreHeld, Keeps}
use Rattle.type_resolve.specs.Known.{IsKnown, AreKnown}
use Rattle.type_resolve.specs.declared.making.Known.{Known}
use Rattle.type_resolve.proofs.Kept.{keeps_held, is_added, added_are_held}

-- ---- texts that are held

pub held_kept : (old new : Texts) (ts : List (List ℕ)) → Keeps old new → AreHeld old ts → AreHeld new ts
held_kept old new [] keeps h = tt
held_kept old new (t ∷ ts) keeps h = (keeps_held old new t keeps h.0, held_kept old new ts keeps h.1)

abbrev answer : HashId → Texts → Result (HashId × Texts) Refusal
answer id p = Ok (id, p)

put_again : (pool : Texts) (bs : List ℕ) → put pool (named bs) bs (Some bs) ≡ Ok (named bs, pool)
put_again pool bs = ap (λ b. cond b (answer (named bs) pool) (Err (clash (named bs)))) ((bytes_eq-Decides bs bs).1 refl)

added_again : (pool : Texts) (bs : List ℕ) → IsHeld pool bs → added pool bs ≡ Ok (named bs, pool)
unfolding added
added_again pool bs h = ap (added_so pool bs) h.read.read ∙ (ap (put pool (named bs) bs) h.there ∙ put_again pool bs)

all_again : (pool : Texts) (ts : List (List ℕ)) → AreHeld pool ts → all_added pool ts ≡ (pool, None)
unfolding all_added
all_again pool [] h = refl
all_again pool (t ∷ ts) h = ap (λ r. after_added pool r (λ p. all_added p ts)) (added_again pool t h.0) ∙ all_again pool ts h.1

-- Texts that are held are added without a change.
pub adds_again : (pool : Texts) (ts : List (List ℕ)) → AreHeld pool ts → Adds pool ts pool
adds_again pool ts h = record { all = all_again pool ts h }

-- the texts of a type that were all added
pub held_after : {old new : Texts} {whole t : Tree} → whole ≡ t → Adds old (texts t) new → AreHeld new (texts whole)
held_after {old} {new} {whole} {t} is h = (added_are_held old new (texts whole) (subst (λ u. Adds old (texts u) new) (sym is) h)).1

-- ---- types that are known

pub kept_so : (old new : Texts) (k : Known) → Keeps old new → IsKnown old k → IsKnown new k
kept_so old new k keeps h = record { held = held_kept old new _ keeps h.held; named = h.named }

pub all_kept : (old new : Texts) (ks : List Known) → Keeps old new → AreKnown old ks → AreKnown new ks
all_kept old new ks keeps h = λ i d lt. kept_so old new _ keeps (h i d lt)

after_keeps : (r : Result (HashId × Texts) Refusal) (old new : Texts) (t : List ℕ) (ts : List (List ℕ)) (why : Option Refusal) → ((mid : Texts) → all_added mid ts ≡ (new, why) → Keeps mid new)
    → added old t ≡ r → after_added old r (λ p. all_added p ts) ≡ (new, why) → Keeps old new
after_keeps (Ok r) old new t ts why more is e = let one = is_added old r.1 r.0 t is in λ id bs k. more r.1 e id bs (one.keeps id bs k)
after_keeps (Err f) old new t ts why more is e = let same : old ≡ new = ap (λ (p : Texts × Option Refusal). p.0) e in λ id bs k. subst (λ p. found id p ≡ Some bs) same k

-- what was found is found after texts are added, up to one that is refused too
keeps_all : (old new : Texts) (ts : List (List ℕ)) (why : Option Refusal) → all_added old ts ≡ (new, why) → Keeps old new
unfolding all_added
keeps_all old new [] why e = let same : old ≡ new = ap (λ (p : Texts × Option Refusal). p.0) e in λ id bs k. subst (λ p. found id p ≡ Some bs) same k
keeps_all old new (t ∷ ts) why e = after_keeps (added old t) old new t ts why (λ mid k. keeps_all mid new ts why k) refl e

halts_keep : (fault : PoolFault) (old new : Texts) (ts : List (List ℕ)) → Halts fault old ts new → Keeps old new
halts_keep (F.Object fault) old new ts h = keeps_all old new ts _ h.first
halts_keep (F.Clash id) old new ts h = keeps_all old new ts _ h.first
halts_keep F.Full old new ts h = keeps_all old new ts _ h.first
halts_keep F.OutOfMemory old new ts h = keeps_all old new h.before None h.adds.all

pub known_stored : {X Y : Type 0} (view : X → Y) (r : Result X PoolFault) (old new : Texts) (ts : List (List ℕ)) (y : Y) (ks : List Known) → Stores view r old ts new y → AreKnown old ks → AreKnown new ks
known_stored view (Ok x) old new ts y ks h known = all_kept old new ks (keeps_all old new ts None h.0.all) known
known_stored view (Err f) old new ts y ks h known = all_kept old new ks (halts_keep f old new ts h) known

known_so : (pool : Texts) (k : Known) (r : Option Identifiers) (t : Tree) → IsKnown pool k → IfSome r (λ ids. (ids ≡ k.ids) × (tree k.ty.now ≡ t)) → IfSome r (λ ids. Adds pool (texts t) pool × (hashes_seen ids ≡ sides t))
known_so pool k None t h e = tt
known_so pool k (Some ids) t h e = (subst (λ u. Adds pool (texts u) pool) e.1 (adds_again pool (texts (tree k.ty.now)) h.held), ap hashes_seen e.0 ∙ (sym h.named ∙ ap sides e.1))

-- the identifiers of a type that is known
pub known_at : (pool : Texts) (ks : List Known) (i : ℕ) (k : Known) (r : Option Identifiers) (t : Tree) → AreKnown pool ks → i < length ks → get_or ks i k ≡ k → IfSome r (λ ids. (ids ≡ k.ids) × (tree k.ty.now ≡ t)) → IfSome r (λ ids. Adds pool (texts t) pool × (hashes_seen ids ≡ sides t))
known_at pool ks i k r t h lt is e = known_so pool k r t (subst (IsKnown pool) is (h i k lt)) e
