-- What the calls of a library for other languages answer (this profile's own). Each is by the definitions that the commands have.
use Rattle.std.specs.Prelude.{◌≡◌, ℕ, Bool, false, List, [], ◌∷◌, ◌++◌, length, Option, Some, None, Result, Ok, Err, nat_lt, if◌then◌else◌, not, ◌==◌, ◌%◌, ◌/◌, codes}
use Rattle.std.specs.Bool.{MatchBool}
use Rattle.std.specs.Option.{option_map, option_and_then}
use Rattle.xt_io.specs.Bundles.{bundle}
use Rattle.xt_io.specs.declared.Item.{Item}
use Rattle.xt_shapes.specs.declared.leaves.Order.TheVariants.{Little}
use Rattle.xt_shapes.specs.declared.leaves.Rep.{Rep}
use Rattle.xt_shapes.specs.declared.leaves.Rep.TheVariants.{Xcdr1, Xcdr2}
use Rattle.xt_shapes.specs.Vals.{Val}
use Rattle.type_trees.specs.declared.types.HashId.{HashId}
use Rattle.type_trees.specs.Trees.{Tree, prim, str, enumeration, bitmask, sequence, array, map_of, structure, union, alias}
use Rattle.type_trees.specs.Bridge.{shape}
use Rattle.type_trees.specs.Paths.{path_text}
use Rattle.xcdr_model.specs.declared.malformed.Fault.{Fault}
use Rattle.xcdr_model.specs.declared.verdict.Policy.{Policy}
use Rattle.xcdr_model.specs.KeyOctets.{key_hash}
use Rattle.xcdr_model.specs.Samples.{Outcome, sample, discarded, must_understand, read_sample}
use Rattle.xcdr_model.specs.SampleSpelling.{fixed_sample, sample_size}
use Rattle.json_values.specs.declared.faults.ValueFault.{ValueFault}
use Rattle.json_values.specs.declared.faults.ValueFault.TheVariants.{NotJson, Wrong, OutOfMemory}
use Rattle.json_values.specs.Written.{json_text}
use Rattle.json_values.specs.Words as json_words
use Rattle.json_values.specs.Read.{read_as}
use Rattle.dynamic_data.specs.numbers.Texts.{ShowsNumbers, read_numbers}
use Rattle.tool_runs.specs.declared.output.ending.Cause.{Cause}
use Rattle.tool_runs.specs.declared.output.ending.Cause.TheVariants as causes
use Rattle.tool_runs.specs.output.Outputs.{Refusal, ◌>>=◌}
use Rattle.tool_runs.specs.front.Fronts.{Front, front_of, closed}
use Rattle.tool_words.specs.Words.{Pair, Reference, reference}
use Rattle.type_trees.specs.Ids.{id_text}
use Rattle.type_object.specs.Pools.{Texts}
use Rattle.type_resolve.specs.Objects.{identifier}
use Rattle.idl_printer.specs.Lines.{printed}
use Rattle.tool_types.specs.Types.{Declared, types, object, declare}
use Rattle.tool_types.specs.names.Identified.{by_hash, id_named}
use Rattle.tool_types.specs.names.Names.{name_refusal, top_named}
use Rattle.tool_samples.specs.lines.Lines.{malformed_text, most_octets}
use Rattle.tool_verdicts.specs.Verdicts.{assignable}
use Rattle.xt_calls.specs.declared.answers.Answer.{Answer}
use Rattle.xt_calls.specs.declared.words.Floats.{Floats}

-- ---- statuses: those of the commands, and four for samples

abbrev pub status_of : Cause → ℕ
status_of causes.No = 1
status_of causes.Words = 2
status_of causes.Bundle = 3
status_of causes.Types = 7
status_of causes.NoName = 8
status_of causes.NetFault = 9
status_of causes.Json = 10
status_of causes.Fetch = 11
status_of causes.Limit = 12

abbrev pub said : ℕ → List ℕ → Answer
said status text = record { status = status; text = text }

abbrev pub refused : Refusal → Answer
refused r = said (status_of r.cause) r.text

-- ---- the types of a bundle, of which nothing but Notes comes behind the front

abbrev pub with_front : Front → Result (List Item) Refusal
with_front front = closed front.body >>= λ u. Ok front.records

abbrev pub records_of : List ℕ → Result (List Item) Refusal
records_of octets = front_of 0 (bundle octets) >>= with_front

-- what they declare, and the pool of the objects
abbrev pub types_of : List ℕ → Result (List Declared × Texts) Refusal
types_of octets = records_of octets >>= declare 0 []

-- ---- a pair of types, by the words that name them

abbrev pub rep_of : ℕ → Option Rep
rep_of code = if code == 1 then Some Xcdr1 else if code == 2 then Some Xcdr2 else None

-- 1: finite floats are numbers in the JSON
abbrev pub floats_of : ℕ → Option Floats
floats_of flags = if flags == 0 then Some Floats.Bits else if flags == 1 then Some Floats.Numbers else None

abbrev pub written_in : ℕ → ℕ → Option (Rep × Floats)
written_in code flags = option_and_then (λ rep. option_map (λ floats. (rep, floats)) (floats_of flags)) (rep_of code)

-- whether the bit that stands for so much is set
abbrev pub is_set : ℕ → ℕ → Bool
is_set worth flags = flags / worth % 2 == 1

-- 1: types that aren't equivalent are not assignable; 2 and 4: bounds of strings and of sequences may not be below the writer's; 8: names may differ
abbrev pub policy_with : ℕ → Policy
policy_with flags = record { coercion = not (is_set 1 flags); ignore_string_bounds = not (is_set 2 flags); ignore_sequence_bounds = not (is_set 4 flags); ignore_member_names = is_set 8 flags }

abbrev pub policy_of : ℕ → Option Policy
policy_of flags = if nat_lt flags 16 then Some (policy_with flags) else None

abbrev pub pair_of : List ℕ → List ℕ → ℕ → ℕ → Option Pair
pair_of reader writer rep flags = option_and_then (λ r. option_and_then (λ w. option_and_then (λ p. option_map (λ q. record { reader = r; writer = w; rep = p; policy = q }) (policy_of flags)) (rep_of rep)) (reference writer)) (reference reader)

abbrev pub words_refusal : Refusal
words_refusal = record { text = codes "words"; cause = causes.Words }

-- the reader's type, where it is assignable from the writer's
abbrev pub reader_of : Option Pair → List Declared × Texts → Result Tree Refusal
reader_of None front = Err words_refusal
reader_of (Some pair) front = assignable pair front

abbrev pub judged : Option Pair → List Declared × Texts → Result Answer Refusal
judged pair front = reader_of pair front >>= λ t. Ok (said 0 [])

-- ---- one type, by the word that names it

-- the same of a word that names nothing by its form
abbrev pub by_word : {A : Type 0} → Option Reference → (Reference → Result A Refusal) → Result A Refusal
by_word None answer = Err words_refusal
by_word (Some r) answer = answer r

abbrev pub id_answer : HashId → Result Answer Refusal
id_answer id = Ok (said 0 (id_text id))

-- its identifier, which is the complete one where a text declares it
abbrev pub identified : List ℕ → List Declared × Texts → Result Answer Refusal
identified word front = by_word (reference word) (λ r. id_named r front >>= id_answer)

-- its minimal one
abbrev pub minimal_named : Reference → List Declared × Texts → Result HashId Refusal
minimal_named r front = top_named r front >>= λ t. by_hash r.word (identifier false t)

abbrev pub minimally_identified : List ℕ → List Declared × Texts → Result Answer Refusal
minimally_identified word front = by_word (reference word) (λ r. minimal_named r front >>= id_answer)

-- ---- types as IDL

-- the name that a type has itself
abbrev pub name_of : Tree → Option (List ℕ)
name_of (prim p) = None
name_of (str bound) = None
name_of (enumeration name ext bits literals) = name
name_of (bitmask name bits flags) = name
name_of (sequence bound tc t) = None
name_of (array dims tc t) = None
name_of (map_of bound kc k vc v) = None
name_of (structure h ms) = h.name
name_of (union h disc cs) = h.name
name_of (alias name t) = name

-- A type of a minimal object has no name, and then no text.
abbrev pub printed_as : List ℕ → Tree → Option (List ℕ) → Result Answer Refusal
printed_as word t None = Err (name_refusal word)
printed_as word t (Some name) = Ok (said 0 (printed ((name, t) ∷ [])))

abbrev pub printed_by : List ℕ → List Declared × Texts → Result Answer Refusal
printed_by word front = by_word (reference word) (λ r. top_named r front >>= λ t. printed_as word t (name_of t))

-- of the types of a text
abbrev pub text_in : Declared → List ℕ
text_in (types ts) = printed ts
text_in (object id name) = []

-- one after another
abbrev pub texts_in : List Declared → List ℕ
texts_in [] = []
texts_in (d ∷ ds) = text_in d ++ texts_in ds

-- ---- samples

-- what the reader's type makes of a sample: its value as JSON, or why there is none
abbrev pub read_answer : Tree → Result Outcome Fault → Answer
read_answer t (Ok (sample v)) = said 0 (json_text t v)
read_answer t (Ok discarded) = said 16 (codes "discarded")
read_answer t (Ok must_understand) = said 17 (codes "must-understand")
read_answer t (Err fault) = said 18 (malformed_text fault)

-- an answer in JSON, with floats as they were asked
abbrev pub Shows : Floats → Tree → (plain shown : Answer) → Type 0
Shows Floats.Bits t plain shown = shown ≡ plain
Shows Floats.Numbers t plain shown = (shown.status ≡ plain.status) × MatchBool (plain.status == 0) (ShowsNumbers t plain.text shown.text) (shown.text ≡ plain.text)

-- what a text in JSON means for a type
abbrev pub meaning : Floats → Tree → List ℕ → Result Val ValueFault
meaning Floats.Bits t text = read_as t text
meaning Floats.Numbers t text = read_numbers t text

-- for a type, what floats in one form show and mean is what they do in another
pub record StandsFor (form floats : Floats) (t : Tree) : Type 0 where
  pub shown : (read : Result Outcome Fault) (answer : Answer) → Shows form t (read_answer t read) answer → Shows floats t (read_answer t read) answer
  pub meant : (text : List ℕ) → meaning form t text ≡ meaning floats t text

-- the sample of a value, unless it is too large
abbrev pub sample_answer : ℕ → List ℕ → Rep → Tree → Val → Answer
sample_answer status text rep t v = if nat_lt most_octets (sample_size rep (shape t) v) then said status text else said 0 (fixed_sample rep Little (shape t) v)

-- the same value as a sample in another representation
abbrev pub converted_answer : Rep → Tree → Result Outcome Fault → Answer
converted_answer to t (Ok (sample v)) = sample_answer 19 (codes "too-large") to t v
converted_answer to t (Ok discarded) = said 16 (codes "discarded")
converted_answer to t (Ok must_understand) = said 17 (codes "must-understand")
converted_answer to t (Err fault) = said 18 (malformed_text fault)

-- why a text is no value of a type; want of memory is no such reason
abbrev pub fault_answer : ValueFault → Answer
fault_answer NotJson = said 10 (codes "syntax")
fault_answer (Wrong path rule) = said 10 (json_words.rule_text rule ++ codes " " ++ path_text path)
fault_answer OutOfMemory = said 10 []

-- the sample of a value in JSON, or why there is none
abbrev pub written_answer : Rep → Tree → Result Val ValueFault → Answer
written_answer rep t (Ok v) = sample_answer 10 (codes "LARGE /") rep t v
written_answer rep t (Err fault) = fault_answer fault

-- ---- keys

-- A longer sample is not looked at.
abbrev pub hashed : Tree → Result Outcome Fault → Answer
hashed t (Ok (sample v)) = said 0 (key_hash (shape t) v)
hashed t (Ok discarded) = said 16 (codes "discarded")
hashed t (Ok must_understand) = said 17 (codes "must-understand")
hashed t (Err fault) = said 18 (malformed_text fault)

-- the hash of the key of a sample's value
abbrev pub key_answer : Rep → Tree → List ℕ → Answer
key_answer rep t payload = if nat_lt most_octets (length payload) then said 19 (codes "too-large") else hashed t (read_sample rep (shape t) payload)
