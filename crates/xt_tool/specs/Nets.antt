-- What the words come to that peers have a say in (this profile's own).
use Rattle.std.specs.Prelude.{◌≡◌, ℕ, ◌⊎◌, List, Option, Some, None, IfSome, IsSome, codes}
use Rattle.std.specs.Io.KnownBytes.{Appends}
use Rattle.xt_io.specs.Outside.{AppendsPrefix, Rose}
use Rattle.type_object.specs.Names.{hash_of}
use Rattle.tool_runs.specs.declared.output.ending.Style.{Style}
use Rattle.tool_runs.specs.declared.output.ending.Style.TheVariants.{Lines, Records}
use Rattle.tool_runs.specs.output.Outputs.{Output, last_piece}
use Rattle.tool_words.specs.Words.{Command, NetCommand, serve, fetch, mirror, net_command_of}
use Rattle.tool_nets.specs.Nets.{Net}
use Rattle.tool_nets.specs.Opened.{Behind}
use Rattle.tool_nets.specs.clients.Clients.{FetchAllows, PushAllows, objects_in}
use Rattle.tool_nets.specs.serving.Serving.{ServeAllows}
use Rattle.tool_runs.specs.declared.output.status.Status.{Status}
use Rattle.tool_runs.specs.declared.output.status.Status.TheVariants.{Done, No, Words, Bundle, ReadFault, WriteFault, OutOfMemory, Types, NoName, NetFault, Json, Fetch, Limit}
use Rattle.xt_tool.specs.Output.{TakesInput, unread_output}
use Rattle.xt_tool.specs.Statuses.{Writes}

-- the outputs that a command may write, by the octets of its input where they are told, and by the net behind it
abbrev pub Allowed : NetCommand → Option (List ℕ) → Net → Output → Type 0
Allowed (serve to workers turns) told net output = Behind told (λ pool. ServeAllows hash_of to workers turns pool net) output
Allowed (fetch to id) told net output = FetchAllows to id net output
Allowed (mirror to) told net output = Behind told (λ pool. PushAllows hash_of to (objects_in pool) net) output

-- `fetch` alone reads no input.
abbrev pub ReadsBundle : NetCommand → Type 0
ReadsBundle (serve to workers turns) = Unit {0}
ReadsBundle (fetch to id) = ⊥
ReadsBundle (mirror to) = Unit {0}

-- so that its input is left as it was
abbrev pub LeavesBundle : NetCommand → Type 0
LeavesBundle (serve to workers turns) = ⊥
LeavesBundle (fetch to id) = Unit {0}
LeavesBundle (mirror to) = ⊥

-- Words that are no command, and those of `make` and `fetch`, leave it.
abbrev pub InputIsLeft : Option NetCommand → Option Command → Type 0
InputIsLeft (Some asked) command = LeavesBundle asked
InputIsLeft None command = IsSome (unread_output command)

-- whether the words ask a command that reads its input
abbrev pub ReadsInput : Option NetCommand → Option Command → Type 0
ReadsInput (Some asked) command = ReadsBundle asked
ReadsInput None command = IfSome command TakesInput

abbrev pub net_style : NetCommand → Style
net_style (serve to workers turns) = Lines
net_style (fetch to id) = Records
net_style (mirror to) = Lines

-- It was stopped before it had anything to write. Where the source failed a last line says so, or a beginning of it where the sink failed.
abbrev pub StopsBefore : List ℕ → Status → (SourceRose : Type 0) → Option (List ℕ) → Option (List ℕ) → Type 0
StopsBefore last ReadFault SourceRose old new = Appends old new last
StopsBefore last WriteFault SourceRose old new = (new ≡ old) ⊎ (SourceRose × AppendsPrefix old new last)
StopsBefore last OutOfMemory SourceRose old new = new ≡ old
StopsBefore last Done SourceRose old new = ⊥
StopsBefore last No SourceRose old new = ⊥
StopsBefore last Words SourceRose old new = ⊥
StopsBefore last Bundle SourceRose old new = ⊥
StopsBefore last Types SourceRose old new = ⊥
StopsBefore last NoName SourceRose old new = ⊥
StopsBefore last NetFault SourceRose old new = ⊥
StopsBefore last Json SourceRose old new = ⊥
StopsBefore last Fetch SourceRose old new = ⊥
StopsBefore last Limit SourceRose old new = ⊥

-- One of the outputs that are allowed was written, whole or by the status a beginning of it; or none was begun.
abbrev pub WritesIn : (Output → Type 0) → List ℕ → Status → (SourceRose : Type 0) → Option (List ℕ) → Option (List ℕ) → Type 0
WritesIn Allows last status SourceRose old new = ((output : Output) × Allows output × Writes output last status SourceRose old new) ⊎ StopsBefore last status SourceRose old new

-- what is written of a command over a net, and its status, where the source's count of faults was and is these
abbrev pub AnswersOverNet : NetCommand → Option (List ℕ) → Net → Status → (faults_before faults_now : ℕ) → Option (List ℕ) → Option (List ℕ) → Type 0
AnswersOverNet asked told net status faults_before faults_now old new =
    WritesIn (Allowed asked told net) (last_piece (net_style asked) (codes "read-fault")) status (Rose faults_before faults_now) old new

-- the same of words, where they ask one
abbrev pub AnswersIfNet : List (List ℕ) → Option (List ℕ) → Net → Status → (faults_before faults_now : ℕ) → Option (List ℕ) → Option (List ℕ) → Type 0
AnswersIfNet words told net status faults_before faults_now old new =
    IfSome (net_command_of words) (λ asked. AnswersOverNet asked told net status faults_before faults_now old new)
