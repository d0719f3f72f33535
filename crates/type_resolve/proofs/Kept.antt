-- What is found in a pool is found as long as texts are added.
use Rattle.std.proofs.Common.{◌≡◌, ℕ, List, [], ◌∷◌, ◌++◌, Option, Some, None, refl, ap, subst, ◌∙◌}
use Rattle.std.specs.Prelude.{Bool, true, false, cond, Result, Ok, Err, length, nat_le, nat_eq}
use Rattle.std.specs.Cmp.Lexicographic.{pointwise}
use Rattle.std.proofs.lemmas.Slice.Eq.{bytes_eq-Decides}
use Rattle.type_trees.specs.declared.types.HashId.{HashId}
use Rattle.object_formats.specs.declared.faults.Fault.{Fault}
use Rattle.object_formats.specs.Objects.{Object}
use Rattle.object_formats.specs.Tables.{object_of}
use Rattle.type_trees.specs.Ids.{same_id}
use Rattle.type_object.specs.Names.{named}
use Rattle.type_trees.proofs.SameIds.{same_id_itself}
use Rattle.type_object.specs.Pools.{Texts, Refusal, clash, full, found, put, added, added_so}
use Rattle.type_resolve.specs.Adding.{after_added, all_added}
use Rattle.type_resolve.specs.Held.{IsHeld, AreHeld, Keeps, AddedAreHeld}

-- ---- one more text

stays_by : (b : Bool) (t bs : List ℕ) (o p : Option (List ℕ)) → (o ≡ Some bs → p ≡ Some bs) → cond b (Some t) o ≡ Some bs → cond b (Some t) p ≡ Some bs
stays_by true t bs o p h e = e
stays_by false t bs o p h e = h e

pub stays : (id : HashId) (bs : List ℕ) (pool more : Texts) → found id pool ≡ Some bs → found id (pool ++ more) ≡ Some bs
stays id bs [] more e = absurd cc
stays id bs (x ∷ xs) more e = stays_by (same_id id x.0) x.1 bs (found id xs) (found id (xs ++ more)) (stays id bs xs more) e

last_by : (b : Bool) (t bs : List ℕ) (o p : Option (List ℕ)) → (o ≡ None → p ≡ Some bs) → cond b (Some t) o ≡ None → cond b (Some t) p ≡ Some bs
last_by true t bs o p h e = absurd cc
last_by false t bs o p h e = h e

pub found_last : (id : HashId) (bs : List ℕ) (pool : Texts) → found id pool ≡ None → found id (pool ++ (id, bs) ∷ []) ≡ Some bs
found_last id bs [] e = ap (λ b. cond b (Some bs) None) (same_id_itself id)
found_last id bs (x ∷ xs) e = last_by (same_id id x.0) x.1 bs (found id xs) (found id (xs ++ (id, bs) ∷ [])) (found_last id bs xs) e

abbrev answer : HashId → Texts → Result (HashId × Texts) Refusal
answer id p = Ok (id, p)

pool_in : (a b : HashId × Texts) → answer a.0 a.1 ≡ answer b.0 b.1 → a.1 ≡ b.1
pool_in a b e = ap (λ (x : HashId × Texts). x.1) (by a b e)
  where
    by : (a b : HashId × Texts) → answer a.0 a.1 ≡ answer b.0 b.1 → a ≡ b
    by a b e = cc

-- the pool after a text is put in
pub record Put (pool new : Texts) (id : HashId) (bs : List ℕ) : Type 0 where
  pub keeps : Keeps pool new
  pub there : found id new ≡ Some bs

put_so : (pool new : Texts) (id i : HashId) (bs : List ℕ) (there : Option (List ℕ)) → found id pool ≡ there → put pool id bs there ≡ Ok (i, new) → Put pool new id bs
put_so pool new id i bs None is e = by (nat_le 4096 (length pool)) e
  where
    by : (b : Bool) → cond b (Err full) (answer id (pool ++ (id, bs) ∷ [])) ≡ Ok (i, new) → Put pool new id bs
    by true e = absurd cc
    by false e = subst (λ p. Put pool p id bs) (pool_in (id, pool ++ (id, bs) ∷ []) (i, new) e) (record { keeps = λ j cs k. stays j cs pool ((id, bs) ∷ []) k; there = found_last id bs pool is })
put_so pool new id i bs (Some t) is e = by (pointwise nat_eq t bs) refl e
  where
    by : (b : Bool) → pointwise nat_eq t bs ≡ b → cond b (answer id pool) (Err (clash id)) ≡ Ok (i, new) → Put pool new id bs
    by true same e = subst (λ p. Put pool p id bs) (pool_in (id, pool) (i, new) e) (record { keeps = λ j cs k. k; there = is ∙ ap (λ c. Some c) ((bytes_eq-Decides t bs).0 same) })
    by false same e = absurd cc

-- the pool after a text is added
pub record AddedSo (pool new : Texts) (bs : List ℕ) : Type 0 where
  pub keeps : Keeps pool new
  pub held : IsHeld new bs

added_by : (pool new : Texts) (i : HashId) (bs : List ℕ) (read : Result Object Fault) → object_of bs ≡ read → added_so pool bs read ≡ Ok (i, new) → AddedSo pool new bs
added_by pool new i bs (Err f) is e = absurd cc
added_by pool new i bs (Ok o) is e = let p = put_so pool new (named bs) i bs (found (named bs) pool) refl e in record { keeps = p.keeps; held = record { there = p.there; read = record { object = o; read = is } } }

pub is_added : (pool new : Texts) (i : HashId) (bs : List ℕ) → added pool bs ≡ Ok (i, new) → AddedSo pool new bs
unfolding added
is_added pool new i bs e = added_by pool new i bs (object_of bs) refl e

-- ---- all texts

pub keeps_held : (old new : Texts) (bs : List ℕ) → Keeps old new → IsHeld old bs → IsHeld new bs
keeps_held old new bs keeps h = record { there = keeps (named bs) bs h.there; read = h.read }

after_by : (r : Result (HashId × Texts) Refusal) (old new : Texts) (t : List ℕ) (ts : List (List ℕ)) → ((mid : Texts) → all_added mid ts ≡ (new, None) → Keeps mid new × AreHeld new ts)
    → added old t ≡ r → after_added old r (λ p. all_added p ts) ≡ (new, None) → Keeps old new × (IsHeld new t × AreHeld new ts)
after_by (Ok r) old new t ts more is e =
    let one = is_added old r.1 r.0 t is in
    let rest = more r.1 e in
    (λ id bs k. rest.0 id bs (one.keeps id bs k), (keeps_held r.1 new t rest.0 one.held, rest.1))
after_by (Err f) old new t ts more is e = let apart : Some f ≡ None = ap (λ (p : Texts × Option Refusal). p.1) e in absurd cc

all_held : (old new : Texts) (ts : List (List ℕ)) → all_added old ts ≡ (new, None) → Keeps old new × AreHeld new ts
unfolding all_added
all_held old new [] e = let is : old ≡ new = ap (λ (p : Texts × Option Refusal). p.0) e in (λ id bs k. subst (λ p. found id p ≡ Some bs) is k, tt)
all_held old new (t ∷ ts) e = after_by (added old t) old new t ts (λ mid k. all_held mid new ts k) refl e

pub added_are_held : AddedAreHeld
added_are_held old new texts h = all_held old new texts h.all
