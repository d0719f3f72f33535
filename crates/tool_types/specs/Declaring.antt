-- What the records of a front declare, as the program holds it (this profile's own).
use Rattle.std.specs.Prelude.{◌≡◌, ℕ, true, false, List, [], ◌∷◌, None, Result, Ok, Err}
use Rattle.type_trees.specs.Trees.{Tree}
use Rattle.type_rules.specs.Valid.{type_fault}
use Rattle.object_formats.specs.Objects as o
use Rattle.type_resolve.specs.Objects.{has_objects, identifier}
use Rattle.type_resolve.specs.declared.sides.Identifiers.{Identifiers}
use Rattle.type_object.specs.Pools as pools
use Rattle.type_object.specs.Pools.{Texts}
use Rattle.type_object.specs.declared.pool.PoolFault.{PoolFault}
use Rattle.type_object.specs.declared.pool.PoolFault.TheVariants as F
use Rattle.idl_types.specs.State as idl_types
use Rattle.idl_types.specs.Definitions as definitions
use Rattle.idl_input.specs.declared.faults.IdlFault.{IdlFault}
use Rattle.idl_input.specs.declared.faults.IdlFault.TheVariants as idl_fault
use Rattle.tool_types.specs.Types.{idl_fault_text}
use Rattle.tool_runs.specs.declared.output.halt.Halt.TheVariants as halts
use Rattle.tool_runs.specs.declared.output.stop.Stop.{Stop}
use Rattle.tool_runs.specs.declared.output.stop.Stop.TheVariants as stops
use Rattle.tool_runs.specs.output.Outputs.{Refusal}
use Rattle.tool_runs.specs.output.Runs.{refusal, Refuses}
use Rattle.tool_types.specs.Types as spec
use Rattle.tool_types.specs.declared.declaring.Declared.{Declared}
use Rattle.tool_types.specs.declared.declaring.Declared.TheVariants.{Types, Object}

abbrev pub declared_view : Declared → spec.Declared
declared_view (Types ds ids) = spec.types (definitions.declared ds)
declared_view (Object id name) = spec.object id name

-- the identifiers of a type's minimal and complete objects
pub record Identifies (t : Tree) (ids : Identifiers) : Type 0 where
  pub minimal : identifier false t ≡ o.hash ids.minimal
  pub complete : identifier true t ≡ o.hash ids.complete

-- one after another, of as many types
abbrev pub AreIdentified : idl_types.Declared → List Identifiers → Type 0
AreIdentified [] [] = Unit {0}
AreIdentified [] (ids ∷ more) = ⊥
AreIdentified (t ∷ ts) [] = ⊥
AreIdentified (t ∷ ts) (ids ∷ more) = Identifies t.1 ids × AreIdentified ts more

-- each type has objects of its own, and is valid
abbrev pub AreGood : idl_types.Declared → Type 0
AreGood [] = Unit {0}
AreGood (t ∷ ts) = (has_objects t.1 ≡ true) × ((type_fault t.1 ≡ None) × AreGood ts)

-- each type of what a record declares is valid, and its identifiers stand beside it
abbrev pub IsGood : Declared → Type 0
IsGood (Types ds ids) = AreGood (definitions.declared ds) × AreIdentified (definitions.declared ds) ids
IsGood (Object id name) = Unit {0}

abbrev pub AllGood : List Declared → Type 0
AllGood [] = Unit {0}
AllGood (d ∷ ds) = IsGood d × AllGood ds

-- What is answered, with the pool behind it; after a refusal nothing is said of the pool.
abbrev pub Leaves : {A X : Type 0} → Result (A × Texts) Refusal → (X → A) → Result X Stop → Texts → Type 0
Leaves said view (Ok x) pool = said ≡ Ok (view x, pool)
Leaves said view (Err (stops.Refused r)) pool = said ≡ Err (refusal r)
Leaves said view (Err (stops.Halted halt)) pool = halt ≡ halts.OutOfMemory

-- the refusal with this text, unless memory was wanting for it
abbrev pub RefusesTypes : {E : Type 0} → Result (List ℕ) E → Stop → Type 0
RefusesTypes (Ok text) (stops.Refused r) = refusal r ≡ spec.types_refusal text
RefusesTypes (Ok text) (stops.Halted halt) = ⊥
RefusesTypes (Err e) (stops.Refused r) = ⊥
RefusesTypes (Err e) (stops.Halted halt) = halt ≡ halts.OutOfMemory

-- what a pool's fault says of the text of record k
abbrev pub IsRefusal : ℕ → PoolFault → Stop → Type 0
IsRefusal k (F.Object fault) stop = Refuses (spec.pool_refusal k (pools.no_object fault)) stop
IsRefusal k (F.Clash id) stop = Refuses (spec.pool_refusal k (pools.clash id)) stop
IsRefusal k F.Full stop = Refuses (spec.pool_refusal k pools.full) stop
IsRefusal k F.OutOfMemory stop = stop ≡ stops.Halted halts.OutOfMemory

-- the pool that is answered
abbrev pub Joins : {X : Type 0} → Result Texts Refusal → Result X Stop → Texts → Type 0
Joins said (Ok x) pool = said ≡ Ok pool
Joins said (Err (stops.Refused r)) pool = said ≡ Err (refusal r)
Joins said (Err (stops.Halted halt)) pool = halt ≡ halts.OutOfMemory

-- what the fault of a text of record k says
abbrev pub IdlStops : ℕ → IdlFault → Stop → Type 0
IdlStops k idl_fault.OutOfMemory stop = stop ≡ stops.Halted halts.OutOfMemory
IdlStops k fault stop = Refuses (spec.types_refusal (idl_fault_text k fault)) stop
