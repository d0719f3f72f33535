-- The objects of a pool in a registry (own).
use Rattle.std.specs.Prelude.{◌≡◌, ◌≢◌, ℕ, List, map, All}
use Rattle.std.specs.List.{Contains}
use Rattle.type_trees.specs.declared.types.HashId.{HashId}
use Rattle.type_object.specs.Pools.{Texts}
use Rattle.type_registry.specs.Found.{Found}
use Rattle.tool_nets.specs.declared.serving.registering.Unregistered.{Unregistered}
use Rattle.tool_nets.specs.declared.serving.registering.Unregistered.TheVariants.{Clash, Full, OutOfMemory}

-- what a finding shows, as a pool has it
abbrev pub entry_of : Found → HashId × List ℕ
entry_of f = (f.id, f.octets)

-- all were found in this registry
abbrev pub AreIn : List ℕ → List Found → Type 0
AreIn registry findings = All (λ (f : Found). f.registry ≡ registry) findings

-- A finding in this registry for each object of the pool, in order.
pub record Holds (registry : List ℕ) (pool : Texts) (findings : List Found) : Type 0 where
  pub are_in : AreIn registry findings
  pub entries : map entry_of findings ≡ pool

-- a finding of this object in this registry
abbrev pub IsOfEntry : List ℕ → HashId × List ℕ → Found → Type 0
IsOfEntry registry entry f = (f.registry ≡ registry) × (entry_of f ≡ entry)

-- why this object was refused
abbrev pub IsWhy : HashId × List ℕ → Unregistered → Type 0
IsWhy entry (Clash f) = (f.id ≡ entry.0) × (f.octets ≢ entry.1)
IsWhy entry (Full id trail) = (id ≡ entry.0) × (trail.id ≡ entry.0)
IsWhy entry OutOfMemory = Unit {0}

-- one of the pool was refused so
abbrev pub IsUnregistered : Texts → Unregistered → Type 0
IsUnregistered pool why = (entry : HashId × List ℕ) × Contains pool entry × IsWhy entry why
