-- What the faults of a pool say (this profile's own).
use Rattle.std.specs.Prelude.{◌≡◌, ◌<◌, ℕ, List, length, ◌∷◌, [], ◌++◌, None, Result, Ok, Err}
use Rattle.type_trees.specs.declared.types.HashId.{HashId}
use Rattle.object_formats.specs.declared.faults.Fault.{Fault}
use Rattle.object_formats.specs.declared.faults.ObjectFault.{ObjectFault}
use Rattle.object_formats.specs.declared.faults.ObjectFault.TheVariants as faults
use Rattle.object_formats.specs.Objects.{Object}
use Rattle.type_object.specs.declared.entry.Placed.{Placed}
use Rattle.type_object.specs.declared.entry.Placed.TheVariants as P
use Rattle.type_object.specs.declared.pool.PoolFault.{PoolFault}
use Rattle.type_object.specs.declared.pool.PoolFault.TheVariants as F
use Rattle.type_object.specs.Pools.{Texts, IsObject, Refusal, no_object, clash, full, found, put}

-- what a fault says of what is refused; nothing, where memory is wanting
abbrev pub Refuses : {A : Type 0} → PoolFault → Result A Refusal → Type 0
Refuses (F.Object fault) r = r ≡ Err (no_object fault)
Refuses (F.Clash id) r = r ≡ Err (clash id)
Refuses F.Full r = r ≡ Err full
Refuses F.OutOfMemory r = Unit {0}

-- an object's fault as a pool's
abbrev pub PassesOn : ObjectFault → PoolFault → Type 0
PassesOn (faults.Not at rule) fault = fault ≡ F.Object (record { at = at; rule = rule })
PassesOn faults.OutOfMemory fault = fault ≡ F.OutOfMemory

abbrev pub refused_if : Result Object Fault → Result Object Refusal
refused_if (Ok o) = Ok o
refused_if (Err f) = Err (no_object f)

-- what becomes of an object's text
abbrev pub Decides : Placed → Texts → HashId → List ℕ → Type 0
Decides P.Present pool id bs = IsObject bs × (put pool id bs (found id pool) ≡ Ok (id, pool))
Decides P.Clash pool id bs = put pool id bs (found id pool) ≡ Err (clash id)
Decides P.Full pool id bs = put pool id bs (found id pool) ≡ Err full
Decides P.Free pool id bs = (put pool id bs (found id pool) ≡ Ok (id, pool ++ (id, bs) ∷ [])) × (found id pool ≡ None) × (length pool < 4096)
