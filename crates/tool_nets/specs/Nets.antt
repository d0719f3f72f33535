-- Commands over a net. What peers send has a say in what is written, so an output is one of those that are allowed (own).
use Rattle.std.specs.Prelude.{◌≡◌, ℕ, List, ◌⊎◌, Option, Result, Ok, Err, codes}
use Rattle.xt_io.specs.Outside.{Rose}
use Rattle.xt_io.specs.Links.{Held, Heard}
use Rattle.tool_runs.specs.declared.output.ending.Ending.{Ending}
use Rattle.tool_runs.specs.declared.output.ending.Cause.TheVariants.{NetFault}
use Rattle.tool_runs.specs.declared.output.ending.Style.{Style}
use Rattle.tool_runs.specs.declared.output.halt.Halt.{Halt}
use Rattle.tool_runs.specs.output.Outputs.{Output, Refusal, refused}
use Rattle.tool_runs.specs.output.Runs.{Ends}

-- The net around a command: its count of faults before and after it, and what it tells afterwards.
pub record Net : Type 0 where
  pub before : ℕ
  pub now : ℕ
  pub address : Option (List ℕ)
  pub heard : Option Heard
  pub held : Option (List (List Held))

abbrev pub net_of : ℕ → ℕ → Option (List ℕ) → Option Heard → Option (List (List Held)) → Net
net_of before now address heard held = record { before = before; now = now; address = address; heard = heard; held = held }

abbrev pub net_fault : Refusal
net_fault = record { text = codes "net-fault"; cause = NetFault }

-- the net failed
pub record Fails (style : Style) (net : Net) (output : Output) : Type 0 where
  pub rose : Rose net.before net.now
  pub line : output ≡ refused style net_fault

-- a run that was halted before it had anything to write
abbrev pub HaltsBefore : Result Ending Halt → Option (List ℕ) → Option (List ℕ) → Type 0
HaltsBefore (Ok ended) old new = ⊥
HaltsBefore (Err halt) old new = new ≡ old

-- An output that is allowed was written, whole or up to a halt; or the run was halted before.
abbrev pub EndsIn : (Output → Type 0) → Result Ending Halt → Option (List ℕ) → Option (List ℕ) → Type 0
EndsIn Allowed result old new = ((output : Output) × Allowed output × Ends output result old new) ⊎ HaltsBefore result old new
