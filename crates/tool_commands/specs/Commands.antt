-- What each command writes behind the front of its bundle (this profile's own).
use Rattle.std.specs.Prelude.{ℕ, List, [], ◌∷◌, None, Result, Ok, codes}
use Rattle.xt_io.specs.declared.Item.{Item}
use Rattle.xt_io.specs.declared.Kind.TheVariants.{Sample, Json}
use Rattle.xt_io.specs.Bundles.{Bundle}
use Rattle.xt_shapes.specs.declared.leaves.Rep.{Rep}
use Rattle.tool_runs.specs.declared.output.ending.Style.TheVariants.{Lines, Records}
use Rattle.tool_runs.specs.output.Outputs.{Output, Refusal, ◌>>=◌, after_pieces, run, taking, finished}
use Rattle.tool_samples.specs.lines.Lines.{read_turn, convert_turn, write_turn}
use Rattle.tool_samples.specs.instances.Instancing.{instances_body}
use Rattle.tool_words.specs.Words.{Pair, Reference}
use Rattle.tool_verdicts.specs.Verdicts.{id_and_pool, reader_type, top_and_pool, top_type}
use Rattle.tool_commands.specs.recordings.Recording.{opening_pieces, samples_recorded}
use Rattle.tool_commands.specs.recordings.Replaying.{replayed}

-- `judge`: one line, where the reader's type is assignable
abbrev pub judge_lines : Pair → List Item → Result (List (List ℕ)) Refusal
judge_lines pair records = reader_type pair records >>= λ t. Ok (codes "yes\n" ∷ [])

-- `read`: a line for each sample, by the reader's type alone
abbrev pub read_lines : Pair → List Item → Result (ℕ → Bundle → Output) Refusal
read_lines pair records = reader_type pair records >>= λ t. Ok (λ k body. run Lines (taking Sample (read_turn pair.rep t)) (λ (u : Unit {0}). finished) tt k body)

-- `convert`: a sample of the reader's type for each sample, in another representation
abbrev pub convert_records : Pair → Rep → List Item → Result (ℕ → Bundle → Output) Refusal
convert_records pair to records = reader_type pair records >>= λ t. Ok (λ k body. run Records (taking Sample (convert_turn pair.rep to t)) (λ (u : Unit {0}). finished) tt k body)

-- `write`: a sample for each value in JSON
abbrev pub write_records : Reference → Rep → List Item → Result (ℕ → Bundle → Output) Refusal
write_records r rep records = top_type r records >>= λ t. Ok (λ k body. run Records (taking Json (write_turn rep t)) (λ (u : Unit {0}). finished) tt k body)

-- `record`: the objects of the writer's type and the Note of its stream, and then each sample as it is
abbrev pub record_records : Reference → Rep → List Item → Result (ℕ → Bundle → Output) Refusal
record_records r rep records = id_and_pool r records >>= λ found. Ok (λ k body. after_pieces (opening_pieces found.1 found.0 rep) (samples_recorded k body))

-- `replay`: a line for each stream, and for each sample of those that the reader's type is assignable from
abbrev pub replay_lines : Reference → List Item → Result (ℕ → Bundle → Output) Refusal
replay_lines r records = top_and_pool r records >>= λ found. Ok (λ k body. replayed found.0 (record { pool = found.1; stream = None }) k body)

-- `instances`: at the end of the input the last values of each key
abbrev pub instances_lines : Pair → ℕ → List Item → Result (ℕ → Bundle → Output) Refusal
instances_lines pair depth records = reader_type pair records >>= λ t. Ok (λ k body. instances_body depth pair.rep t [] k body)
