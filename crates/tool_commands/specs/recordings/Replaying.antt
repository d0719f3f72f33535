-- Recordings, as a reader's type sees them: lines for their streams and samples (this profile's own).
use Rattle.std.specs.Prelude.{ℕ, List, [], ◌∷◌, ◌++◌, Option, Some, None, Result, Ok, Err, codes}
use Rattle.xt_io.specs.declared.Item.{Item}
use Rattle.xt_io.specs.Bundles.{Bundle}
use Rattle.xt_shapes.specs.declared.leaves.Rep.{Rep}
use Rattle.type_trees.specs.declared.types.HashId.{HashId}
use Rattle.type_trees.specs.Ids.{id_text}
use Rattle.type_trees.specs.Trees.{Tree}
use Rattle.xcdr_model.specs.Failure.{First}
use Rattle.xt_recorder.specs.Streams.{stream_text}
use Rattle.xt_recorder.specs.Replays as replays
use Rattle.xt_recorder.specs.Replays.{State, Answer, nothing, begins, reads, malformed, misplaced, not_added, unresolved, no_top, taken}
use Rattle.tool_runs.specs.declared.output.ending.Style.TheVariants.{Lines}
use Rattle.tool_runs.specs.declared.output.stop.Stop.{Stop}
use Rattle.tool_runs.specs.output.Outputs as outputs
use Rattle.tool_runs.specs.output.Outputs.{Output, Turn, goes_on, over, after_turn, run, finished}
use Rattle.tool_runs.specs.output.Runs.{Steps}
use Rattle.tool_samples.specs.lines.Lines.{no_text, outcome_line}
use Rattle.tool_types.specs.Types.{types_refusal, pool_refusal}
use Rattle.tool_types.specs.names.Names.{walk_refusal}

-- ---- lines

abbrev pub verdict_text : First → List ℕ
verdict_text None = codes "yes"
verdict_text (Some failure) = no_text failure.0 failure.1

-- `stream ID REP`, and whether the reader's type is assignable
abbrev pub stream_line : HashId → Rep → First → List ℕ
stream_line id rep first = stream_text id rep ++ 32 ∷ verdict_text first ++ 10 ∷ []

-- A stream has one line, and each sample that is read has that of `read`.
abbrev pub answer_lines : Tree → Answer → List (List ℕ)
answer_lines t nothing = []
answer_lines t (begins id rep first) = stream_line id rep first ∷ []
answer_lines t (reads outcome) = outcome_line t (Ok outcome) ∷ []
answer_lines t (malformed fault) = outcome_line t (Err fault) ∷ []

-- ---- last lines

abbrev pub top_text : HashId → List ℕ
top_text id = codes "top #" ++ id_text id

-- why record k is refused
abbrev pub replay_refusal : ℕ → Item → replays.Refusal → outputs.Refusal
replay_refusal k item misplaced = outputs.misplaced item
replay_refusal k item (not_added refusal) = pool_refusal k refusal
replay_refusal k item (unresolved refusal) = walk_refusal refusal
replay_refusal k item (no_top id) = types_refusal (top_text id)

-- ---- records

abbrev pub stepped : Tree → ℕ → Item → replays.Step → Turn State
stepped t k item (Ok r) = goes_on (answer_lines t r.0) r.1
stepped t k item (Err refusal) = over (replay_refusal k item refusal)

-- Each record is taken, whatever its kind: what is misplaced is refused as it is taken.
abbrev pub replay_turn : Tree → ℕ → Item → State → Turn State
replay_turn t k item s = stepped t k item (taken t s item)

-- what is written of a record, and then of what stands behind it
abbrev pub replayed_by : Tree → ℕ → Item → State → (State → Output) → Output
replayed_by t k item s more = after_turn Lines (replay_turn t k item s) more

-- What was written leads from a record, taken in one state, to what is still to come in another.
abbrev pub ReplaysRecord : {T : Type 0} → Tree → ℕ → Item → State → State → Result T Stop → Option (List ℕ) → Option (List ℕ) → Type 0
ReplaysRecord t k item s after result old new = (more : State → Output) → Steps Lines (Some (replayed_by t k item s more)) (Some (more after)) result old new

-- A stream that the reader's type isn't assignable from ends nothing: the records are taken to their end.
abbrev pub replayed : Tree → State → ℕ → Bundle → Output
replayed t s k body = run Lines (replay_turn t) (λ state. finished) s k body
