-- What becomes of a text, from whether it is an object's and from what the pool has under its identifier.
use Rattle.std.proofs.Common.{◌≡◌, ℕ, List, [], ◌∷◌, ◌++◌, Result, Ok, Err, ap, subst, ◌∙◌}
use Rattle.std.specs.Prelude.{IfOk}
use Rattle.type_trees.specs.declared.types.HashId.{HashId}
use Rattle.object_formats.specs.declared.faults.Fault.{Fault}
use Rattle.object_formats.specs.Objects.{Object}
use Rattle.object_formats.specs.Tables.{object_of}
use Rattle.type_object.specs.declared.pool.PoolFault.{PoolFault}
use Rattle.type_object.specs.declared.pool.PoolFault.TheVariants as F
use Rattle.type_object.specs.Names.{named}
use Rattle.type_object.specs.Pools.{Texts, IsObject, Refusal, found, put, added, added_so}
use Rattle.type_object.specs.Faults.{Refuses, refused_if}

pub added_is : (pool : Texts) (bs : List ℕ) (id : HashId) (answer : Result (HashId × Texts) Refusal) → IsObject bs → id ≡ named bs → put pool id bs (found id pool) ≡ answer → added pool bs ≡ answer
unfolding added
added_is pool bs id answer is name e = ap (added_so pool bs) is.read ∙ rw (← name) e

refused_so : (fault : PoolFault) (pool : Texts) (bs : List ℕ) (read : Result Object Fault) → Refuses fault (refused_if read) → Refuses fault (added_so pool bs read)
refused_so (F.Object fault) pool bs (Ok o) e = absurd cc
refused_so (F.Object fault) pool bs (Err f) e = cc
refused_so (F.Clash id) pool bs (Ok o) e = absurd cc
refused_so (F.Clash id) pool bs (Err f) e = absurd cc
refused_so F.Full pool bs (Ok o) e = absurd cc
refused_so F.Full pool bs (Err f) e = absurd cc
refused_so F.OutOfMemory pool bs read e = tt

-- what is no object's text is refused as such
pub refused : (fault : PoolFault) (pool : Texts) (bs : List ℕ) → Refuses fault (refused_if (object_of bs)) → Refuses fault (added pool bs)
unfolding added
refused fault pool bs e = refused_so fault pool bs (object_of bs) e

-- ---- what a call answered

put_so : (result : Result HashId PoolFault) (pool new : Texts) (bs : List ℕ) (id : HashId) → IfOk result (λ i. (i ≡ id) × (new ≡ pool ++ (id, bs) ∷ [])) → IsObject bs → id ≡ named bs → put pool id bs (found id pool) ≡ Ok (id, pool ++ (id, bs) ∷ []) → IfOk result (λ i. added pool bs ≡ Ok (i, new))
put_so (Ok i) pool new bs id e is name d = added_is pool bs id (Ok (i, new)) is name (let same = e.0 in let put_last = e.1 in cc)
put_so (Err f) pool new bs id e is name d = tt

-- a text with the octets that were asked about was put in
pub put_in : (result : Result HashId PoolFault) (pool new : Texts) (text bs : List ℕ) (id : HashId) → text ≡ bs → IfOk result (λ i. (i ≡ id) × (new ≡ pool ++ (id, text) ∷ [])) → IsObject text → id ≡ named bs → put pool id bs (found id pool) ≡ Ok (id, pool ++ (id, bs) ∷ []) → IfOk result (λ i. added pool bs ≡ Ok (i, new))
put_in result pool new text bs id same e is name d = put_so result pool new bs id (subst (λ t. IfOk result (λ i. (i ≡ id) × (new ≡ pool ++ (id, t) ∷ []))) same e) (subst IsObject same is) name d
