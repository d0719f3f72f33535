-- The calls' answers are what the commands write, and the headline of the calls.
use Rattle.std.proofs.Common.{◌≡◌, refl, sym, ap, ◌∙◌, ℕ, Bool, true, false, if◌then◌else◌, nat_lt, List, [], inr, None, Some, Result, Ok, Err}
use Rattle.xt_io.specs.declared.Item.{Item}
use Rattle.xt_shapes.specs.Vals.{Val}
use Rattle.type_trees.specs.Trees.{Tree}
use Rattle.type_trees.specs.Bridge.{shape}
use Rattle.type_rules.specs.Laws.{ShapeKeepsRules}
use Rattle.type_rules.specs.Valid.{type_fault}
use Rattle.type_object.specs.Pools.{Texts}
use Rattle.xcdr_model.specs.declared.malformed.Fault.{Fault}
use Rattle.xcdr_model.specs.Failure.{First, first_failure}
use Rattle.xcdr_model.specs.Samples.{Outcome, sample, discarded, must_understand, read_sample}
use Rattle.xcdr_model.specs.SampleSpelling.{sample_size}
use Rattle.shape_laws.specs.Verdicts.{Judged}
use Rattle.shape_laws.specs.Soundness.{CrossSample}
use Rattle.shape_laws.specs.Readings.{SampleTyped}
use Rattle.json_values.specs.declared.faults.ValueFault.TheVariants.{NotJson, Wrong, OutOfMemory}
use Rattle.json_values.specs.Read.{read_as}
use Rattle.json_values.specs.Written.{json_text}
use Rattle.tool_runs.specs.output.Outputs.{Refusal, ◌>>=◌}
use Rattle.tool_types.specs.Types.{Declared, declare}
use Rattle.tool_types.specs.names.Identified.{id_named}
use Rattle.tool_samples.specs.lines.Lines.{outcome_line, written, unless_failed, most_octets}
use Rattle.tool_verdicts.specs.Verdicts.{NamedAreValid, assignable}
use Rattle.dynamic_data.specs.Laws.{JsonIsRead}
use Rattle.dynamic_data.specs.numbers.Laws.{NumbersComeBack}
use Rattle.xt_calls.specs.declared.answers.Answer.{Answer}
use Rattle.xt_calls.specs.declared.words.Floats.{Floats}
use Rattle.xt_calls.specs.Calls.{read_answer, records_of, said, Shows, meaning}
use Rattle.xt_calls.specs.Laws.{line_of, record_of, turn_of, LinesAreRead, ConversionsAreRecords, WritesAreRecords, ValuesComeBack, CommandsAgree, Headline}

-- ---- lines and records

line_is : (t : Tree) (read : Result Outcome Fault) → line_of (read_answer t read) ≡ outcome_line t read
line_is t (Ok (sample v)) = refl
line_is t (Ok discarded) = refl
line_is t (Ok must_understand) = refl
line_is t (Err fault) = refl

pub lines_are_read : LinesAreRead
lines_are_read rep t payload = line_is t (read_sample rep (shape t) payload)

-- what is done with either of two
either : {A B : Type 0} (f : A → B) (b : Bool) (x y : A) → f (if b then x else y) ≡ (if b then f x else f y)
either f true x y = refl
either f false x y = refl

pub conversions_are_records : ConversionsAreRecords
conversions_are_records to t (Ok (sample v)) = either record_of (nat_lt most_octets (sample_size to (shape t) v)) _ _
conversions_are_records to t (Ok discarded) = refl
conversions_are_records to t (Ok must_understand) = refl
conversions_are_records to t (Err fault) = refl

pub writes_are_records : WritesAreRecords
writes_are_records rep t k (Ok v) = either (turn_of k) (nat_lt most_octets (sample_size rep (shape t) v)) _ _
writes_are_records rep t k (Err NotJson) = refl
writes_are_records rep t k (Err (Wrong path rule)) = refl
writes_are_records rep t k (Err OutOfMemory) = refl

-- ---- what is read, and written again

-- a text that means a value means it as it is shown
shown_means : NumbersComeBack → (t : Tree) → type_fault t ≡ None → (floats : Floats) (text : List ℕ) (v : Val) (shown : Answer) → read_as t text ≡ Ok v → Shows floats t (said 0 text) shown → meaning floats t shown.text ≡ Ok v
shown_means law t valid Floats.Bits text v shown is shows = ap (λ (a : Answer). read_as t a.text) shows ∙ is
shown_means law t valid Floats.Numbers text v shown is shows = law t text shown.text v valid is shows.1

pub values_come_back : JsonIsRead → NumbersComeBack → ShapeKeepsRules → SampleTyped → ValuesComeBack
values_come_back json law kept typed rep t valid floats payload v shown octets is shows =
    let has = typed rep (shape t) payload v (kept t valid) octets is in
    shown_means law t valid floats (json_text t v) v shown (json t v valid has) shows

-- ---- verdicts and names

pub commands_agree : CommandsAgree
commands_agree records front declared = record {
  judges = λ pair. sym (ap (λ (d : Result (List Declared × Texts) Refusal). d >>= assignable pair) declared);
  names = λ r. sym (ap (λ (d : Result (List Declared × Texts) Refusal). d >>= λ f. id_named r f >>= λ id. Ok (id, f.1)) declared);
}

-- ---- the headline

abbrev Front : Type 0
Front = List Declared × Texts

-- the records that were read
from_records : (records : Result (List Item) Refusal) (front : Front) → (records >>= declare 0 []) ≡ Ok front → (rs : List Item) × (declare 0 [] rs ≡ Ok front)
from_records (Ok rs) front opens = (rs, opens)
from_records (Err refusal) front opens = absurd cc

no_failure : (first : First) (reader : Tree) → (unless_failed first >>= λ u. Ok reader) ≡ Ok reader → first ≡ None
no_failure None reader is = refl
no_failure (Some failure) reader is = absurd cc

pub headline : ShapeKeepsRules → NamedAreValid → Judged → CrossSample → Headline
headline kept named law cross bundle front pair reader writer opens both found payload v spells =
    let (rs, declared) = from_records (records_of bundle) front opens in
    let valid = named rs front pair.reader pair.writer reader writer declared both in
    let reader_rules = kept reader valid.0 in
    let writer_rules = kept writer valid.1 in
    let passes = ap (λ (p : Result (Tree × Tree) Refusal). p >>= λ ts. unless_failed (first_failure pair.policy pair.rep (shape ts.0) (shape ts.1)) >>= λ u. Ok ts.0) (sym both) ∙ found in
    let fits = (law pair.policy pair.rep (shape reader) (shape writer) reader_rules).0 (no_failure (first_failure pair.policy pair.rep (shape reader) (shape writer)) reader passes) in
    ap (λ (r : Result Outcome Fault). read_answer reader r) (cross pair.policy pair.rep (shape reader) (shape writer) v payload reader_rules writer_rules (inr fits) spells)
