-- What words name.
use Rattle.std.proofs.Common.{◌≡◌, refl, subst, ℕ, zero, suc, List, [], ◌∷◌, map, Some, None, Result, Ok, Err}
use Rattle.std.specs.Prelude.{Option, slice_get}
use Rattle.std.specs.Option.{option_map}
use Rattle.xt_shapes.specs.declared.leaves.Step.{Step}
use Rattle.type_trees.specs.declared.types.HashId.{HashId}
use Rattle.type_trees.specs.Trees.{Tree}
use Rattle.type_rules.specs.Valid.{type_fault}
use Rattle.type_object.specs.Pools.{Texts}
use Rattle.object_walks.specs.Resolving.{Stop, resolved, settled, checked, walked}
use Rattle.tool_types.specs.declared.declaring.Declared.{Declared as Record}
use Rattle.tool_types.specs.Declaring.{AllGood, IsGood, declared_view}

-- ---- what resolves is valid

settled_valid : (id : HashId) (r : Result Tree Stop) (t : Tree) → settled id r ≡ Ok t → type_fault t ≡ None
settled_valid id (Ok u) t e = by (type_fault u) refl e
  where
    by : (f : Option (ℕ × List Step)) → type_fault u ≡ f → checked id u f ≡ Ok t → type_fault t ≡ None
    by None g e = let same : u ≡ t = cc e in subst (λ (x : Tree). type_fault x ≡ None) same g
    by (Some f) g e = absurd cc
settled_valid id (Err s) t e = absurd cc

pub resolved_valid : (pool : Texts) (id : HashId) (t : Tree) → resolved pool id ≡ Ok t → type_fault t ≡ None
unfolding resolved
resolved_valid pool id t e = settled_valid id (walked pool id) t e

-- ---- records

-- the record of a number, as it stands for itself
pub record_at : (records : List Record) (k : ℕ) → slice_get (map declared_view records) k ≡ option_map declared_view (slice_get records k)
record_at [] k = refl
record_at (r ∷ records) zero = refl
record_at (r ∷ records) (suc k) = record_at records k

pub good_at : (records : List Record) (k : ℕ) (d : Record) → AllGood records → slice_get records k ≡ Some d → IsGood d
good_at [] k d all e = absurd cc
good_at (r ∷ records) zero d all e = subst IsGood (cc e) all.0
good_at (r ∷ records) (suc k) d all e = good_at records k d all.1 e
