-- The seats of the workers, and what their doors held (own).
use Rattle.std.specs.Prelude.{◌≡◌, ℕ, List, length, All, Bool, Option, Some, None, Result, Ok, Err}
use Rattle.xt_io.specs.declared.NetFault.{NetFault}
use Rattle.xt_io.specs.declared.NetFault.TheVariants.{Failed, OutOfMemory}
use Rattle.xt_io.specs.Links.{Held, IsNewDoor}
use Rattle.type_object.specs.Pools.{Texts}
use Rattle.type_registry.specs.Passed.{PassView, IsPass}
use Rattle.tool_runs.specs.declared.output.ending.Style.TheVariants.{Lines}
use Rattle.tool_runs.specs.output.Outputs.{Output, refused}
use Rattle.tool_nets.specs.Nets.{net_fault}
use Rattle.tool_nets.specs.serving.Lines.{sessions_of}
use Rattle.tool_nets.specs.serving.Serving.{HasPool, DoorHeld}

-- A pass of this registry that knows every object of the pool.
pub record Knows (name : List ℕ → List ℕ) (registry : List ℕ) (pool : Texts) (pass : PassView) : Type 0 where
  pub registry_is : pass.registry ≡ registry
  pub sound : IsPass name pass
  pub has_pool : HasPool pass pool

-- A seat with such a pass and a new door.
pub record IsReady (name : List ℕ → List ℕ) (registry : List ℕ) (pool : Texts) (pass : PassView) (held : Option (List Held)) (out : Bool) (faults : ℕ) : Type 0 where
  pub knows : Knows name registry pool pass
  pub new_door : IsNewDoor held out faults

-- where the door tells what it held, it is that of all turns
abbrev pub TellsHeld : (List ℕ → List ℕ) → Texts → ℕ → Option (List Held) → Type 0
TellsHeld name pool turns None = Unit {0}
TellsHeld name pool turns (Some entries) = DoorHeld name pool turns entries

-- the same of so many doors
abbrev pub AreHeld : (List ℕ → List ℕ) → Texts → ℕ → ℕ → List (Option (List Held)) → Type 0
AreHeld name pool workers turns doors = (length doors ≡ workers) × All (TellsHeld name pool turns) doors

-- what is said of what came of serving; where memory was wanting, nothing
abbrev pub IsSaid : Result ℕ NetFault → Output → Type 0
IsSaid (Ok count) output = output ≡ sessions_of count
IsSaid (Err Failed) output = output ≡ refused Lines net_fault
IsSaid (Err OutOfMemory) output = ⊥
