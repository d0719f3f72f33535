-- How a command ends that stopped (this profile's own).
use Rattle.std.specs.Prelude.{◌≡◌, ℕ, ◌≤◌, ◌⊎◌, List, Option, Result, Ok, Err, IsErrOf}
use Rattle.xt_io.specs.Outside.{Rose}
use Rattle.tool_runs.specs.declared.output.ending.Ending.{Ending}
use Rattle.tool_runs.specs.declared.output.ending.Ending.TheVariants.{Done}
use Rattle.tool_runs.specs.declared.output.ending.Style.{Style}
use Rattle.tool_runs.specs.declared.output.halt.Halt.{Halt}
use Rattle.tool_runs.specs.declared.output.halt.Halt.TheVariants as halts
use Rattle.tool_runs.specs.declared.output.stop.Stop.{Stop}
use Rattle.tool_runs.specs.declared.output.stop.Stop.TheVariants as stops
use Rattle.tool_runs.specs.output.Outputs.{refused}
use Rattle.tool_runs.specs.output.Runs.{Ends, refusal}

-- with its last line, or with nothing more
abbrev pub Concludes : Style → Stop → Result Ending Halt → Option (List ℕ) → Option (List ℕ) → Type 0
Concludes style (stops.Refused r) result old new = Ends (refused style (refusal r)) result old new
Concludes style (stops.Halted halt) result old new = (result ≡ Err halt) × (new ≡ old)

-- The halt of a stop is answered; a last line may meet one of its own. A command that stopped is not done.
pub record StopsSo (stop : Stop) (sink_before sink_now : ℕ) (result : Result Ending Halt) : Type 0 where
  pub later : sink_before ≤ sink_now
  pub read : IsErrOf result halts.ReadFault → stop ≡ stops.Halted halts.ReadFault
  pub write : IsErrOf result halts.WriteFault → (stop ≡ stops.Halted halts.WriteFault) ⊎ Rose sink_before sink_now
  pub not_done : result ≡ Ok Done → ⊥
