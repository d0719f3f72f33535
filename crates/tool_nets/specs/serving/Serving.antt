-- What the command may write that serves objects (own).
use Rattle.std.specs.Prelude.{◌≡◌, ◌≢◌, ℕ, List, ◌⊎◌, true, length, All, Option, Some, None}
use Rattle.std.specs.List.{Contains}
use Rattle.xt_io.specs.Links.{Held, IsToldAs}
use Rattle.type_trees.specs.declared.types.HashId.{HashId}
use Rattle.type_object.specs.Pools.{Texts}
use Rattle.type_registry.specs.Held as cells
use Rattle.type_registry.specs.Passed.{PassView, known, IsPass, Occupied, IsFull}
use Rattle.lookup_service.specs.chains.Chains.{Chain}
use Rattle.tool_runs.specs.declared.output.ending.Style.TheVariants.{Lines}
use Rattle.tool_runs.specs.output.Outputs.{Output}
use Rattle.tool_nets.specs.Nets.{Net, Fails}
use Rattle.tool_nets.specs.serving.Lines.{clash_output, full_output, sessions_output}

-- The registry has another object under the identifier of one of the pool.
pub record ClashSaid (name : List ℕ → List ℕ) (pool : Texts) (output : Output) : Type 0 where
  pub id : HashId
  pub octets : List ℕ
  pub others : List ℕ
  pub in_pool : Contains pool (id, octets)
  pub named : cells.IsNamed name (cells.held id others)
  pub differ : others ≢ octets
  pub said : output ≡ clash_output id others

-- All probed cells of the identifier of one of the pool hold others.
pub record FullSaid (name : List ℕ → List ℕ) (pool : Texts) (output : Output) : Type 0 where
  pub octets : List ℕ
  pub occupied : Occupied
  pub in_pool : Contains pool (occupied.id, octets)
  pub full : IsFull name occupied
  pub said : output ≡ full_output occupied.id occupied.held

-- every object of the pool is known
abbrev pub HasPool : PassView → Texts → Type 0
HasPool pass pool = All (λ entry. known pass entry.0 ≡ Some entry.1) pool

-- What a door held: as many sessions as turns, one after another, from a state that knows every object of the pool to some state.
pub record DoorHeld (name : List ℕ → List ℕ) (pool : Texts) (turns : ℕ) (entries : List Held) : Type 0 where
  pub count : length entries ≡ turns
  pub first : PassView
  pub last : PassView
  pub sound : IsPass name first
  pub has_pool : HasPool first pool
  pub chain : Chain name true first entries last

-- where the net tells what its doors held, each of them
abbrev pub DoorsHeld : (List ℕ → List ℕ) → Texts → ℕ → ℕ → Option (List (List Held)) → Type 0
DoorsHeld name pool workers turns None = Unit {0}
DoorsHeld name pool workers turns (Some all) = (length all ≡ workers) × All (DoorHeld name pool turns) all

-- All turns were served.
pub record ServeSaid (name : List ℕ → List ℕ) (to : List ℕ) (workers turns : ℕ) (pool : Texts) (net : Net) (output : Output) : Type 0 where
  pub address : IsToldAs net.address to
  pub held : DoorsHeld name pool workers turns net.held
  pub said : output ≡ sessions_output workers turns

-- what may be written of a pool
abbrev pub ServeAllows : (List ℕ → List ℕ) → List ℕ → ℕ → ℕ → Texts → Net → Output → Type 0
ServeAllows name to workers turns pool net output = ClashSaid name pool output ⊎ (FullSaid name pool output ⊎ (Fails Lines net output ⊎ ServeSaid name to workers turns pool net output))
