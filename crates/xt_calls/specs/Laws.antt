-- That the calls answer what the commands write (this profile's own).
use Rattle.std.specs.Prelude.{◌≡◌, IsTrue, ℕ, nat_lt, List, [], ◌∷◌, ◌++◌, None, Some, Result, Ok, if◌then◌else◌, ◌==◌, codes}
use Rattle.xt_io.specs.declared.Item.{Item}
use Rattle.xt_io.specs.declared.Kind.TheVariants.{Sample, Note}
use Rattle.xt_io.specs.Records.{record_octets}
use Rattle.xt_shapes.specs.declared.leaves.Rep.{Rep}
use Rattle.xt_shapes.specs.Lists.{all}
use Rattle.xt_shapes.specs.Vals.{Val}
use Rattle.type_trees.specs.Trees.{Tree}
use Rattle.type_trees.specs.Bridge.{shape}
use Rattle.type_rules.specs.Valid.{type_fault}
use Rattle.type_object.specs.Pools.{Texts}
use Rattle.xcdr_model.specs.declared.malformed.Fault.{Fault}
use Rattle.xcdr_model.specs.Samples.{Outcome, sample, read_sample, projection}
use Rattle.xcdr_model.specs.SampleSpelling.{IsSample}
use Rattle.json_values.specs.declared.faults.ValueFault.{ValueFault}
use Rattle.tool_runs.specs.output.Outputs.{Turn, goes_on, over, ◌>>=◌}
use Rattle.tool_types.specs.Types.{Declared, declare}
use Rattle.tool_types.specs.names.Identified.{id_named}
use Rattle.tool_types.specs.names.Names.{pair_named}
use Rattle.tool_words.specs.Words.{Pair, Reference}
use Rattle.tool_samples.specs.lines.Lines.{sample_line, converted, written, json_refusal}
use Rattle.tool_verdicts.specs.Verdicts.{reader_type, id_and_pool}
use Rattle.xt_calls.specs.declared.answers.Answer.{Answer}
use Rattle.xt_calls.specs.declared.words.Floats.{Floats}
use Rattle.xt_calls.specs.Calls.{types_of, reader_of, read_answer, converted_answer, written_answer, Shows, meaning}

-- ---- `read`

-- an answer as a line of `read`
abbrev pub line_of : Answer → List ℕ
line_of answer = (if answer.status == 0 then codes "ok " ++ answer.text else answer.text) ++ 10 ∷ []

-- `xt_read` answers the line that `read` writes of the sample.
abbrev pub LinesAreRead : Type 0
LinesAreRead = (rep : Rep) (t : Tree) (payload : List ℕ) → line_of (read_answer t (read_sample rep (shape t) payload)) ≡ sample_line rep t payload

-- ---- `convert` and `write`

-- an answer as a record of `convert`
abbrev pub record_of : Answer → List ℕ
record_of answer = if answer.status == 0 then record_octets Sample answer.text else record_octets Note answer.text

-- `xt_convert` answers the record that `convert` writes of the sample.
abbrev pub ConversionsAreRecords : Type 0
ConversionsAreRecords = (to : Rep) (t : Tree) (read : Result Outcome Fault) → record_of (converted_answer to t read) ≡ converted to t read

-- an answer as what `write` does at its record k
abbrev pub turn_of : ℕ → Answer → Turn (Unit {0})
turn_of k answer = if answer.status == 0 then goes_on (record_octets Sample answer.text ∷ []) tt else over (json_refusal k answer.text)

-- `xt_write` answers the record that `write` writes of what a text means, or its refusal.
abbrev pub WritesAreRecords : Type 0
WritesAreRecords = (rep : Rep) (t : Tree) (k : ℕ) (read : Result Val ValueFault) → turn_of k (written_answer rep t read) ≡ written rep t k read

-- ---- what is read, and written again

-- What `xt_read` shows of a sample's value, `xt_write` reads as that value with the same flags.
abbrev pub ComesBack : Rep → Tree → Type 0
ComesBack rep t = (floats : Floats) (payload : List ℕ) (v : Val) (shown : Answer) → IsTrue (all (λ c. nat_lt c 256) payload) → read_sample rep (shape t) payload ≡ Ok (sample v)
    → Shows floats t (read_answer t (Ok (sample v))) shown → meaning floats t shown.text ≡ Ok v

abbrev pub ValuesComeBack : Type 0
ValuesComeBack = (rep : Rep) (t : Tree) → type_fault t ≡ None → ComesBack rep t

-- ---- `judge`, and identifiers

-- `xt_judge` judges as the commands do, and `xt_type_id` names as they do.
pub record Agrees (records : List Item) (front : List Declared × Texts) : Type 0 where
  pub judges : (pair : Pair) → reader_of (Some pair) front ≡ reader_type pair records
  pub names : (r : Reference) → (id_named r front >>= λ id. Ok (id, front.1)) ≡ id_and_pool r records

abbrev pub CommandsAgree : Type 0
CommandsAgree = (records : List Item) (front : List Declared × Texts) → declare 0 [] records ≡ Ok front → Agrees records front

-- ---- the headline

-- Where a reader was opened, `xt_read` answers of each sample that spells a value of the writer's type what it answers of the value's projection.
abbrev pub Projected : Pair → (reader writer : Tree) → Type 0
Projected pair reader writer = (payload : List ℕ) (v : Val) → IsSample pair.rep (shape writer) v payload → read_answer reader (read_sample pair.rep (shape reader) payload) ≡ read_answer reader (Ok (projection (shape reader) (shape writer) v))

abbrev pub Headline : Type 0
Headline = (bundle : List ℕ) (front : List Declared × Texts) (pair : Pair) (reader writer : Tree) → types_of bundle ≡ Ok front → pair_named pair.reader pair.writer front ≡ Ok (reader, writer) → reader_of (Some pair) front ≡ Ok reader → Projected pair reader writer
