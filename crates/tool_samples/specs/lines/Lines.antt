-- The lines and records of the commands, and the turns of their bodies (this profile's own).
use Rattle.std.specs.Prelude.{ℕ, List, [], ◌∷◌, ◌++◌, Some, None, Result, Ok, Err, nat_lt, if◌then◌else◌, codes}
use Rattle.std.specs.Fmt.{decimal}
use Rattle.xt_io.specs.declared.Kind.TheVariants.{Sample, Note}
use Rattle.xt_io.specs.declared.Item.{Item}
use Rattle.xt_shapes.specs.declared.leaves.Order.TheVariants.{Little}
use Rattle.xt_shapes.specs.declared.leaves.Rep.{Rep}
use Rattle.xt_shapes.specs.declared.leaves.Step.{Step}
use Rattle.xt_shapes.specs.Vals.{Val}
use Rattle.type_trees.specs.Trees.{Tree}
use Rattle.type_trees.specs.Bridge.{shape}
use Rattle.xcdr_model.specs.declared.malformed.Fault.{Fault}
use Rattle.xcdr_model.specs.declared.verdict.Policy.{Policy}
use Rattle.xcdr_model.specs.declared.verdict.Rule.{Rule}
use Rattle.xcdr_model.specs.Failure.{First, first_failure}
use Rattle.xcdr_model.specs.Samples.{Outcome, sample, discarded, must_understand, read_sample}
use Rattle.xcdr_model.specs.SampleSpelling.{fixed_sample, sample_size}
use Rattle.json_values.specs.declared.faults.ValueFault.{ValueFault}
use Rattle.json_values.specs.declared.faults.ValueFault.TheVariants.{NotJson, Wrong, OutOfMemory}
use Rattle.json_values.specs.Written.{json_text}
use Rattle.json_values.specs.Read.{read_as}
use Rattle.tool_runs.specs.declared.output.ending.Cause.TheVariants.{No, Json as JsonFault}
use Rattle.xt_io.specs.Records.{record_octets}
use Rattle.tool_runs.specs.output.Outputs.{Refusal, Turn, goes_on, over}
use Rattle.type_trees.specs.Paths.{path_text}
use Rattle.xcdr_model.specs.Words.{why_text, rule_text}
use Rattle.json_values.specs.Words as json_words

-- ---- the verdict

abbrev pub no_text : Rule → List Step → List ℕ
no_text rule path = codes "no " ++ rule_text rule ++ codes " " ++ path_text path

abbrev pub no_refusal : Rule → List Step → Refusal
no_refusal rule path = record { text = no_text rule path; cause = No }

abbrev pub unless_failed : First → Result (Unit {0}) Refusal
unless_failed None = Ok tt
unless_failed (Some failure) = Err (no_refusal failure.0 failure.1)

-- whether the reader's type is assignable from the writer's, or else the first rule that fails
abbrev pub judged : Policy → Rep → Tree → Tree → Result (Unit {0}) Refusal
judged policy rep t1 t2 = unless_failed (first_failure policy rep (shape t1) (shape t2))

-- ---- what the reader's type makes of a sample

abbrev pub malformed_text : Fault → List ℕ
malformed_text fault = codes "malformed " ++ decimal fault.at ++ 32 ∷ why_text fault.why

abbrev pub value_text : Tree → Val → List ℕ
value_text t v = codes "ok " ++ json_text t v

abbrev pub outcome_text : Tree → Result Outcome Fault → List ℕ
outcome_text t (Ok (sample v)) = value_text t v
outcome_text t (Ok discarded) = codes "discarded"
outcome_text t (Ok must_understand) = codes "must-understand"
outcome_text t (Err fault) = malformed_text fault

abbrev pub outcome_line : Tree → Result Outcome Fault → List ℕ
outcome_line t read = outcome_text t read ++ 10 ∷ []

-- the line of a payload, by the reader's type alone
abbrev pub sample_line : Rep → Tree → List ℕ → List ℕ
sample_line rep t payload = outcome_line t (read_sample rep (shape t) payload)

-- ---- the turns of `read`, `convert` and `write`

-- one piece for a sample, by what the reader's type makes of it
abbrev pub shown_turn : Rep → (Result Outcome Fault → List ℕ) → Tree → ℕ → Item → Unit {0} → Turn (Unit {0})
shown_turn rep piece t k item u = goes_on (piece (read_sample rep (shape t) item.payload) ∷ []) u

abbrev pub read_turn : Rep → Tree → ℕ → Item → Unit {0} → Turn (Unit {0})
read_turn rep t = shown_turn rep (outcome_line t) t

abbrev pub most_octets : ℕ
most_octets = 1048576

-- a sample of the reader's type in another representation; or a Note
abbrev pub converted : Rep → Tree → Result Outcome Fault → List ℕ
converted to t (Ok (sample v)) = if nat_lt most_octets (sample_size to (shape t) v) then record_octets Note (codes "too-large") else record_octets Sample (fixed_sample to Little (shape t) v)
converted to t (Ok discarded) = record_octets Note (codes "discarded")
converted to t (Ok must_understand) = record_octets Note (codes "must-understand")
converted to t (Err fault) = record_octets Note (malformed_text fault)

abbrev pub convert_turn : Rep → Rep → Tree → ℕ → Item → Unit {0} → Turn (Unit {0})
convert_turn rep to t = shown_turn rep (converted to t) t

abbrev pub json_refusal : ℕ → List ℕ → Refusal
json_refusal k what = record { text = codes "json " ++ decimal k ++ 32 ∷ what; cause = JsonFault }

abbrev pub written : Rep → Tree → ℕ → Result Val ValueFault → Turn (Unit {0})
written rep t k (Ok v) = if nat_lt most_octets (sample_size rep (shape t) v) then over (json_refusal k (codes "LARGE /")) else goes_on (record_octets Sample (fixed_sample rep Little (shape t) v) ∷ []) tt
written rep t k (Err NotJson) = over (json_refusal k (codes "syntax"))
written rep t k (Err (Wrong path rule)) = over (json_refusal k (json_words.rule_text rule ++ codes " " ++ path_text path))
written rep t k (Err OutOfMemory) = over (json_refusal k [])

abbrev pub write_turn : Rep → Tree → ℕ → Item → Unit {0} → Turn (Unit {0})
write_turn rep t k item u = written rep t k (read_as t item.payload)
