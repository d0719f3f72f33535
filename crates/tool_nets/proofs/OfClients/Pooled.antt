-- The objects of a pool may be pushed.
use Rattle.std.proofs.Common.{◌≡◌, ◌≢◌, ℕ, suc, ◌+◌, ◌<◌, ◌≤◌, List, [], ◌∷◌, ◌++◌, Bool, false, cond, length, take, get_or, AllPairs, inl, inr, None, Some, refl, ap, ◌∙◌, arith}
use Rattle.std.specs.Prelude.{slice_get}
use Rattle.std.proofs.lemmas.List.{length-map, map-append, take_more, take_all}
use Rattle.std.proofs.lemmas.List.Elements.{All-map}
use Rattle.std.proofs.lemmas.Option.{get_or_from_slice_get, slice_get_within}
use Rattle.type_trees.specs.declared.types.HashId.{HashId}
use Rattle.type_trees.specs.Ids.{same_id}
use Rattle.type_trees.proofs.SameIds.{same_id_tells}
use Rattle.type_object.specs.Names.{hash_of}
use Rattle.type_object.specs.Pools.{IsPool, Texts}
use Rattle.type_lookup.specs.declared.messages.messages.Fetched.{Fetched}
use Rattle.type_mirror.specs.pairs.Pairs.{IsDistinct, object_at}
use Rattle.type_mirror.specs.told.Pushes.{IsOwn, MayPush}
use Rattle.tool_nets.specs.clients.Clients.{objects_in}

-- ---- distinct identifiers

apart : (a b : HashId) → a ≢ b → same_id a b ≡ false
apart a b other = elim (same_id_tells a b) [ inl same ↦ absurd (other same.1) | inr differ ↦ differ.0 ]

none_at : (id : HashId) (pool : Texts) → ((k : ℕ) (e : HashId × List ℕ) → k < length pool → id ≢ (get_or pool k e).0) → object_at id (objects_in pool) ≡ None
none_at id [] others = refl
none_at id (e ∷ es) others =
    ap (λ (b : Bool). cond b (Some e.1) (object_at id (objects_in es))) (apart id e.0 (others 0 e (omega arith))) ∙ none_at id es (λ k d lt. others (suc k) d (omega arith))

distinct_in : (pool : Texts) → AllPairs (λ a b. a.0 ≢ b.0) pool → IsDistinct (objects_in pool)
distinct_in [] pairs = tt
distinct_in (e ∷ es) pairs = (
  none_at e.0 es (λ k d lt. pairs 0 (suc k) d (omega arith) (omega arith)),
  distinct_in es (λ i j d below lt. pairs (suc i) (suc j) d (omega arith) (omega arith)),
)

pub pool_pushes : (pool : Texts) → IsPool pool → MayPush hash_of (objects_in pool)
pool_pushes pool is =
    let object : HashId × List ℕ → Fetched = λ entry. record { id = entry.0; octets = entry.1 } in
    record {
      few = omega (arith, length-map pool object, is.few);
      distinct = distinct_in pool is.distinct;
      own = All-map (IsOwn hash_of) object pool (λ k d lt. record { text = is.objects k d lt; named = is.own k d lt });
    }

-- ---- one more object

pub object_more : (pool : Texts) (i : ℕ) (id : HashId) (octets text : List ℕ) (old new : List Fetched) → slice_get pool i ≡ Some (id, octets) → text ≡ octets → old ≡ objects_in (take i pool) → new ≡ old ++ record { id = id; octets = text } ∷ [] → new ≡ objects_in (take (i + 1) pool)
object_more pool i id octets text old new at same before pushed =
    let object : HashId × List ℕ → Fetched = λ entry. record { id = entry.0; octets = entry.1 } in
    let lt : i < length pool = slice_get_within pool i (id, octets) at in
    let more : take (i + 1) pool ≡ take i pool ++ (id, octets) ∷ [] = take_more pool i (id, octets) lt ∙ ap (λ (e : HashId × List ℕ). take i pool ++ e ∷ []) (get_or_from_slice_get pool i (id, octets) (id, octets) at) in
    let whole : objects_in (take (i + 1) pool) ≡ objects_in (take i pool) ++ object (id, octets) ∷ [] = ap objects_in more ∙ map-append object (take i pool) ((id, octets) ∷ []) in
    rw (pushed, before, same, whole) refl

-- all of them
pub all_objects : (pool : Texts) (i : ℕ) (objects : List Fetched) → length pool ≤ i → objects ≡ objects_in (take i pool) → objects ≡ objects_in pool
all_objects pool i objects end is = is ∙ ap objects_in (take_all i pool end)
