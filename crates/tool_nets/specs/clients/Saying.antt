-- What a call did that writes one piece, or all that there is to write (own).
use Rattle.std.specs.Prelude.{ℕ, List, Option, Some, None, Result, Ok, Err}
use Rattle.std.specs.Io.KnownBytes.{Appends}
use Rattle.xt_io.specs.Outside.{AppendsPrefix}
use Rattle.tool_runs.specs.declared.output.ending.Ending.{Ending}
use Rattle.tool_runs.specs.declared.output.halt.Halt.{Halt}
use Rattle.tool_runs.specs.output.Outputs.{Output}
use Rattle.tool_runs.specs.output.Runs.{Ends}
use Rattle.tool_nets.specs.Nets.{HaltsBefore}

-- The piece was written, or, where the run is halted, a beginning of it.
abbrev pub SaysPiece : List ℕ → Result (Unit {0}) Halt → Option (List ℕ) → Option (List ℕ) → Type 0
SaysPiece piece (Ok u) old new = Appends old new piece
SaysPiece piece (Err halt) old new = AppendsPrefix old new piece

-- The output was written, whole or up to a halt; where there is none, the run was halted before.
abbrev pub Says : Option Output → Result Ending Halt → Option (List ℕ) → Option (List ℕ) → Type 0
Says None result old new = HaltsBefore result old new
Says (Some output) result old new = Ends output result old new
