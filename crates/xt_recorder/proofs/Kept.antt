-- What was found of a stream's type, as it is kept.
use Rattle.std.proofs.lemmas.List.{take_more, length-take-le}
use Rattle.std.proofs.lemmas.Option.{get_or_from_slice_get, slice_get_within}
use Rattle.std.proofs.Common.{◌≡◌, sym, ap, ◌∙◌, take, ◌<◌, slice_get, ℕ, ◌+◌, ◌≤◌, Bool, true, false, cond, List, [], ◌∷◌, ◌++◌, length, length-append, Option, Some, None, Result, Ok, Err, arith}
use Rattle.std.specs.Prelude.{nat_le, IfOk, OnErr}
use Rattle.type_object.specs.declared.pool.PoolFault.{PoolFault}
use Rattle.type_trees.specs.declared.types.HashId.{HashId}
use Rattle.object_formats.specs.declared.faults.Fault.{Fault}
use Rattle.object_formats.specs.Objects.{Object}
use Rattle.object_formats.specs.Tables.{object_of}
use Rattle.type_object.specs.Names.{named}
use Rattle.type_object.specs.Pools as pools
use Rattle.type_object.specs.Pools.{Texts, added, added_so, put, found}

-- ---- pools

apart : (n : ℕ) → n ≡ n + 1 → ⊥
apart n e = omega (arith, e)

put_none : (pool new : Texts) (id i : HashId) (bs : List ℕ) (b : Bool) → (let r : Result (HashId × Texts) pools.Refusal = cond b (Err pools.full) (Ok (id, pool ++ (id, bs) ∷ [])) in r) ≡ Ok (i, new) → length new ≡ length pool → new ≡ pool
put_none pool new id i bs true e same = absurd cc
put_none pool new id i bs false e same =
    let pair : (id, pool ++ (id, bs) ∷ []) ≡ (i, new) = cc in
    let longer : length new ≡ length pool + 1 = ap (λ (p : HashId × Texts). length p.1) (sym pair) ∙ length-append pool ((id, bs) ∷ []) in
    absurd (apart (length pool) (sym same ∙ longer))

put_there : (pool new : Texts) (id i : HashId) (b : Bool) → (let r : Result (HashId × Texts) pools.Refusal = cond b (Ok (id, pool)) (Err (pools.clash id)) in r) ≡ Ok (i, new) → new ≡ pool
put_there pool new id i true e = let pair : (id, pool) ≡ (i, new) = cc in ap (λ (p : HashId × Texts). p.1) (sym pair)
put_there pool new id i false e = absurd cc

put_same : (pool new : Texts) (id i : HashId) (bs : List ℕ) (there : Option (List ℕ)) → put pool id bs there ≡ Ok (i, new) → length new ≡ length pool → new ≡ pool
put_same pool new id i bs None e same = put_none pool new id i bs (nat_le 4096 (length pool)) e same
put_same pool new id i bs (Some text) e same = put_there pool new id i _ e

read_same : (pool new : Texts) (i : HashId) (bs : List ℕ) (r : Result Object Fault) → added_so pool bs r ≡ Ok (i, new) → length new ≡ length pool → new ≡ pool
read_same pool new i bs (Ok x) e same = put_same pool new (named bs) i bs (found (named bs) pool) e same
read_same pool new i bs (Err f) e same = absurd cc

-- a pool that has no object more is the same
pub no_longer : (pool new : Texts) (i : HashId) (bs : List ℕ) → added pool bs ≡ Ok (i, new) → length new ≡ length pool → new ≡ pool
unfolding added
no_longer pool new i bs e same = read_same pool new i bs (object_of bs) e same

-- a pool that an object was added to, or was not, and that has no object more
pub still : (pool new : Texts) (bs : List ℕ) (r : Result HashId PoolFault) → IfOk r (λ id. added pool bs ≡ Ok (id, new)) → OnErr r (new ≡ pool) → length new ≡ length pool → new ≡ pool
still pool new bs (Ok id) ok err same = no_longer pool new id bs ok same
still pool new bs (Err fault) ok err same = err

-- ---- copies of paths

-- the steps copied so far, and the next
pub one_more : {X : Type 0} (path copy new : List X) (i : ℕ) (s : X) → copy ≡ take i path → slice_get path i ≡ Some s → new ≡ copy ++ s ∷ [] → new ≡ take (i + 1) path
one_more path copy new i s so at is = is ∙ ap (λ l. l ++ s ∷ []) so ∙ ap (λ x. take i path ++ x ∷ []) (sym (get_or_from_slice_get path i s s at)) ∙ sym (take_more path i s (slice_get_within path i s at))

-- fewer steps than those of the whole
pub fewer : {X : Type 0} (path copy : List X) (i n : ℕ) → copy ≡ take i path → n ≡ length path → i < n → n ≤ 16 → length copy < 16
fewer path copy i n so count within most =
    let long : i ≤ length path = omega (arith, count, within) in
    let same : length copy ≡ i = ap length so ∙ length-take-le i path long in
    omega (arith, same, within, most)
