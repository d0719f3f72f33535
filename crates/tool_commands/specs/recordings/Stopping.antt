-- What the faults of a replay say (this profile's own).
use Rattle.std.specs.Prelude.{◌≡◌, ℕ}
use Rattle.xt_io.specs.declared.Item.{Item}
use Rattle.xt_recorder.specs.declared.replayed.ReplayFault.{ReplayFault}
use Rattle.xt_recorder.specs.declared.replayed.ReplayFault.TheVariants as faults
use Rattle.tool_runs.specs.declared.output.halt.Halt.TheVariants as halts
use Rattle.tool_runs.specs.declared.output.stop.Stop.{Stop}
use Rattle.tool_runs.specs.declared.output.stop.Stop.TheVariants as stops
use Rattle.tool_runs.specs.output.Outputs.{misplaced}
use Rattle.tool_runs.specs.output.Runs.{Refuses}
use Rattle.tool_types.specs.Types.{types_refusal}
use Rattle.tool_types.specs.Declaring.{IsRefusal}
use Rattle.tool_types.specs.names.Meanings.{WalkStops}
use Rattle.tool_commands.specs.recordings.Replaying.{top_text}

-- what the fault of record k says
abbrev pub ReplayStops : ℕ → Item → ReplayFault → Stop → Type 0
ReplayStops k item faults.Misplaced stop = Refuses (misplaced item) stop
ReplayStops k item (faults.Pool fault) stop = IsRefusal k fault stop
ReplayStops k item (faults.Resolve fault) stop = WalkStops fault stop
ReplayStops k item (faults.Top id) stop = Refuses (types_refusal (top_text id)) stop
ReplayStops k item faults.OutOfMemory stop = stop ≡ stops.Halted halts.OutOfMemory
