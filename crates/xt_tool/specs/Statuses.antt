-- How a run ends, as the program's status, and what was written then (this profile's own).
use Rattle.std.specs.Prelude.{◌≡◌, ℕ, ◌⊎◌, List, [], Option, IfSome, IsErrOf, Result, codes}
use Rattle.std.specs.Io.KnownBytes.{Appends}
use Rattle.xt_io.specs.Outside.{AppendsPrefix, Rose}
use Rattle.tool_runs.specs.declared.output.ending.Ending.{Ending}
use Rattle.tool_runs.specs.declared.output.halt.Halt.{Halt}
use Rattle.tool_runs.specs.declared.output.halt.Halt.TheVariants as halts
use Rattle.tool_runs.specs.declared.output.status.Status.{Status}
use Rattle.tool_runs.specs.declared.output.status.Status.TheVariants.{Done, No, Words, Bundle, ReadFault, WriteFault, OutOfMemory, Types, NoName, NetFault, Json, Fetch, Limit}
use Rattle.tool_runs.specs.output.Outputs.{Output, last_piece, text_of}
use Rattle.tool_runs.specs.output.Runs.{CutPieces, Ends, WrotePieces}
use Rattle.tool_runs.specs.output.Statuses.{status_of}
use Rattle.xt_tool.specs.Output.{output_of, style_of}

-- The status of what asks nothing over a net, of which none fails: want of memory would be told in its place.
abbrev pub without_net : Status → Status
without_net Done = Done
without_net No = No
without_net Words = Words
without_net Bundle = Bundle
without_net ReadFault = ReadFault
without_net WriteFault = WriteFault
without_net OutOfMemory = OutOfMemory
without_net Types = Types
without_net NoName = NoName
without_net NetFault = OutOfMemory
without_net Json = Json
without_net Fetch = Fetch
without_net Limit = Limit

-- The output was written whole, and the status is its.
pub record Whole (output : Output) (status : Status) (old new : Option (List ℕ)) : Type 0 where
  pub ended : status ≡ status_of output.ending
  pub text : Appends old new (text_of output)

-- What was written, by the status: the output whole, or a beginning of it. Where the source failed, whole pieces and then a last one that
-- says so, or a beginning of these where the sink failed after it.
abbrev pub Writes : Output → List ℕ → Status → (SourceRose : Type 0) → Option (List ℕ) → Option (List ℕ) → Type 0
Writes output last ReadFault SourceRose old new = WrotePieces output last old new
Writes output last WriteFault SourceRose old new = AppendsPrefix old new (text_of output) ⊎ (SourceRose × CutPieces output last old new)
Writes output last OutOfMemory SourceRose old new = AppendsPrefix old new (text_of output)
Writes output last Done SourceRose old new = Whole output Done old new
Writes output last No SourceRose old new = Whole output No old new
Writes output last Words SourceRose old new = Whole output Words old new
Writes output last Bundle SourceRose old new = Whole output Bundle old new
Writes output last Types SourceRose old new = Whole output Types old new
Writes output last NoName SourceRose old new = Whole output NoName old new
Writes output last NetFault SourceRose old new = Whole output NetFault old new
Writes output last Json SourceRose old new = Whole output Json old new
Writes output last Fetch SourceRose old new = Whole output Fetch old new
Writes output last Limit SourceRose old new = Whole output Limit old new

-- How a run ended that reads nothing, and what it wrote.
abbrev pub EndsUnread : Option Output → Result Ending Halt → Option (List ℕ) → Option (List ℕ) → Type 0
EndsUnread output result old new = IfSome output (λ o. Ends o result old new × (IsErrOf result halts.ReadFault → ⊥))

-- The same by the status. The source has no part in it.
abbrev pub WritesUnread : Option Output → Status → Option (List ℕ) → Option (List ℕ) → Type 0
WritesUnread output status old new = IfSome output (λ o. Writes o [] status ⊥ old new × (status ≡ ReadFault → ⊥))

-- What is written of words that ask nothing over a net, and its status, where the source tells its octets
-- and its count of faults was and is these.
abbrev pub AnswersAlone : List (List ℕ) → Option (List ℕ) → Status → (faults_before faults_now : ℕ) → Option (List ℕ) → Option (List ℕ) → Type 0
AnswersAlone words told status faults_before faults_now old new =
    IfSome told (λ octets. Writes (output_of words octets) (last_piece (style_of words) (codes "read-fault")) status (Rose faults_before faults_now) old new)
