-- What an identifier resolves to stays, where an object is added.
use Rattle.std.proofs.Common.{◌≡◌, ℕ, Bool, true, false, cond, List, [], ◌∷◌, ◌++◌, length, Option, Some, None, Result, Ok, Err, refl, sym, ap, subst, ◌∙◌}
use Rattle.std.specs.Prelude.{nat_le, IfOk, OnErr, IsOk, IsSome}
use Rattle.object_formats.specs.declared.faults.Fault.{Fault}
use Rattle.object_formats.specs.Objects.{Object}
use Rattle.object_formats.specs.Tables.{object_of}
use Rattle.object_walks.specs.Laws.{IsReached}
use Rattle.object_walks.specs.Resolving.{Refusal, resolved}
use Rattle.type_object.specs.declared.pool.PoolFault.{PoolFault}
use Rattle.type_object.specs.Names.{named}
use Rattle.type_object.specs.Pools as pools
use Rattle.type_object.specs.Pools.{Texts, added, added_so, put, found, object_in}
use Rattle.type_trees.specs.declared.types.HashId.{HashId}
use Rattle.type_trees.specs.Trees.{Tree}
use Rattle.xt_recorder.specs.Judged.{IsJudgedAs}
use Rattle.xt_recorder.specs.Recordings.{closed}
use Rattle.xt_recorder.proofs.Agreeing.{resolved_same}
use Rattle.xt_recorder.proofs.Among.{all_one}
use Rattle.xt_recorder.proofs.Loading.{Stays, found_still}
use Rattle.xt_recorder.proofs.Reached.{parts_reached, itself_reached, texted_behind, closed_is_reached}

-- ---- what is found stays

put_none : (pool new : Texts) (id i : HashId) (bs : List ℕ) (b : Bool) → (let r : Result (HashId × Texts) pools.Refusal = cond b (Err pools.full) (Ok (id, pool ++ (id, bs) ∷ [])) in r) ≡ Ok (i, new) → Stays pool new
put_none pool new id i bs true e = absurd (cc e)
put_none pool new id i bs false e =
    let pair : (id, pool ++ (id, bs) ∷ []) ≡ (i, new) = cc e in
    let same : pool ++ (id, bs) ∷ [] ≡ new = ap (λ (p : HashId × Texts). p.1) pair in
    λ q x f. subst (λ (p : Texts). found q p ≡ Some x) same (found_still q pool ((id, bs) ∷ []) x f)

put_there : (pool new : Texts) (id i : HashId) (b : Bool) → (let r : Result (HashId × Texts) pools.Refusal = cond b (Ok (id, pool)) (Err (pools.clash id)) in r) ≡ Ok (i, new) → Stays pool new
put_there pool new id i true e =
    let pair : (id, pool) ≡ (i, new) = cc e in
    let same : pool ≡ new = ap (λ (p : HashId × Texts). p.1) pair in
    λ q x f. subst (λ (p : Texts). found q p ≡ Some x) same f
put_there pool new id i false e = absurd (cc e)

put_stays : (pool new : Texts) (id i : HashId) (bs : List ℕ) (there : Option (List ℕ)) → put pool id bs there ≡ Ok (i, new) → Stays pool new
put_stays pool new id i bs None e = put_none pool new id i bs (nat_le 4096 (length pool)) e
put_stays pool new id i bs (Some text) e = put_there pool new id i _ e

read_stays : (pool new : Texts) (i : HashId) (bs : List ℕ) (r : Result Object Fault) → added_so pool bs r ≡ Ok (i, new) → Stays pool new
read_stays pool new i bs (Ok x) e = put_stays pool new (named bs) i bs (found (named bs) pool) e
read_stays pool new i bs (Err f) e = absurd (cc e)

added_stays : (pool new : Texts) (i : HashId) (bs : List ℕ) → added pool bs ≡ Ok (i, new) → Stays pool new
unfolding added
added_stays pool new i bs e = read_stays pool new i bs (object_of bs) e

found_same : (pool new : Texts) (q : HashId) → Stays pool new → (there : Option (List ℕ)) → found q pool ≡ there → IsSome there → found q new ≡ there
found_same pool new q stays None e some = absurd (cc some)
found_same pool new q stays (Some x) e some = stays q x e

-- ---- and so do types

resolved_still : (pool new : Texts) (id : HashId) (t : Tree) → Stays pool new → resolved pool id ≡ Ok t → resolved new id ≡ Ok t
resolved_still pool new id t stays e =
    let reach = closed_is_reached pool id t e in
    let texts : (i : HashId) → IsReached pool id i → IsSome (found i pool) = λ i r. texted_behind pool [] (closed pool id) reach.ordered i ((reach.reached i).1 r) in
    let agrees : (i : HashId) → IsReached pool id i → object_in (found i new) ≡ object_in (found i pool) = λ i r. ap object_in (found_same pool new i stays (found i pool) refl (texts i r)) in
    resolved_same new pool (IsReached pool id) agrees (λ i x r h. parts_reached pool id i x r h) id (all_one (IsReached pool id) id (itself_reached pool id)) ∙ e

-- a pool that an object was added to, or was not
still_resolved : (pool new : Texts) (bs : List ℕ) (r : Result HashId PoolFault) → IfOk r (λ id. added pool bs ≡ Ok (id, new)) → OnErr r (new ≡ pool) → (id : HashId) (t : Tree) → resolved pool id ≡ Ok t → resolved new id ≡ Ok t
still_resolved pool new bs (Ok i) ok err id t e = resolved_still pool new id t (added_stays pool new i bs ok) e
still_resolved pool new bs (Err fault) ok err id t e = subst (λ (p : Texts). resolved p id ≡ Ok t) (sym err) e

-- and so does how it is judged
pub still_judged_as : (reader : Tree) (pool new : Texts) (bs : List ℕ) (r : Result HashId PoolFault) → IfOk r (λ id. added pool bs ≡ Ok (id, new)) → OnErr r (new ≡ pool) → (id : HashId) → IsJudgedAs reader (resolved pool id) → IsJudgedAs reader (resolved new id)
still_judged_as reader pool new bs r ok err id known = by (resolved pool id) refl
  where
    by : (found : Result Tree Refusal) → resolved pool id ≡ found → IsJudgedAs reader (resolved new id)
    by (Ok t) e = subst (IsJudgedAs reader) (e ∙ sym (still_resolved pool new bs r ok err id t e)) known
    by (Err why) e = (let none : IsOk {T = Tree} (Err why) = subst (λ (x : Result Tree Refusal). IsOk x) e known.0 in absurd (cc none))
