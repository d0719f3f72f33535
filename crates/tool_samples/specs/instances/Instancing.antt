-- `instances`: the last samples of each key, as lines at the end of the input (this profile's own; keys and their hashes are those of
-- DDS-XTypes 1.3, 7.6.8).
use Rattle.std.specs.Prelude.{ℕ, Option, Some, None, List, [], ◌∷◌, ◌++◌, length, map, Result, Ok, Err, if◌then◌else◌, codes}
use Rattle.std.specs.Fmt.{decimal}
use Rattle.hex.specs.Hex.{encode_lower}
use Rattle.xt_io.specs.declared.Item.{Item}
use Rattle.xt_io.specs.declared.Kind.TheVariants.{Sample}
use Rattle.xt_io.specs.Bundles.{Bundle}
use Rattle.xt_shapes.specs.declared.leaves.Rep.{Rep}
use Rattle.xt_shapes.specs.Vals.{Val}
use Rattle.type_trees.specs.Trees.{Tree}
use Rattle.type_trees.specs.Bridge.{shape}
use Rattle.xcdr_model.specs.declared.malformed.Fault.{Fault}
use Rattle.xcdr_model.specs.KeyOctets.{key_octets, short, hash_of}
use Rattle.xcdr_model.specs.Samples.{Outcome, sample, discarded, must_understand, read_sample}
use Rattle.key_instances.specs.kept.Kept.{Instances, put, is_full}
use Rattle.tool_runs.specs.declared.output.ending.Ending.TheVariants.{Done}
use Rattle.tool_runs.specs.declared.output.ending.Cause.TheVariants.{Limit}
use Rattle.tool_runs.specs.declared.output.ending.Style.TheVariants.{Lines}
use Rattle.tool_runs.specs.output.Outputs.{Output, Refusal, Turn, goes_on, over, run, taking}
use Rattle.tool_samples.specs.lines.Lines.{value_text}

-- ---- a record

-- how many keys there may be
abbrev pub most_keys : ℕ
most_keys = 65536

abbrev pub full : Refusal
full = record { text = codes "instances full"; cause = Limit }

-- One key too many ends the command exactly there.
abbrev pub put_turn : ℕ → Instances → List ℕ → Val → Turn Instances
put_turn depth cache key v = if is_full most_keys cache key then over full else goes_on [] (put depth cache key v)

-- A sample of the reader's type is put under its key, and every other one is passed over. Nothing is written.
abbrev pub outcome_turn : ℕ → Tree → Instances → Result Outcome Fault → Turn Instances
outcome_turn depth t cache (Ok (sample v)) = put_turn depth cache (key_octets (shape t) v) v
outcome_turn depth t cache (Ok discarded) = goes_on [] cache
outcome_turn depth t cache (Ok must_understand) = goes_on [] cache
outcome_turn depth t cache (Err fault) = goes_on [] cache

abbrev pub payload_turn : ℕ → Rep → Tree → Instances → List ℕ → Turn Instances
payload_turn depth rep t cache payload = outcome_turn depth t cache (read_sample rep (shape t) payload)

abbrev pub instances_turn : ℕ → Rep → Tree → ℕ → Item → Instances → Turn Instances
instances_turn depth rep t k item cache = payload_turn depth rep t cache item.payload

-- ---- the end of the input

-- the hash of the key, and how many values there are
abbrev pub instance_line : Tree → List ℕ → ℕ → List ℕ
instance_line t key n = codes "instance " ++ encode_lower (hash_of (short (shape t)) key) ++ 32 ∷ decimal n ++ 10 ∷ []

abbrev pub value_line : Tree → Val → List ℕ
value_line t v = value_text t v ++ 10 ∷ []

abbrev pub value_lines : Tree → List Val → List (List ℕ)
value_lines t vs = map (λ v. value_line t v) vs

-- an instance, and its values from the oldest on
abbrev pub instance_lines : Tree → List ℕ × List Val → List (List ℕ)
instance_lines t e = instance_line t e.0 (length e.1) ∷ value_lines t e.1

-- the same of what stands at a place
abbrev pub head_at : Tree → Option (List ℕ × List Val) → List (List ℕ)
head_at t None = []
head_at t (Some e) = instance_line t e.0 (length e.1) ∷ []

abbrev pub values_at : Tree → Option (List ℕ × List Val) → List (List ℕ)
values_at t None = []
values_at t (Some e) = value_lines t e.1

abbrev pub lines_at : Tree → Option (List ℕ × List Val) → List (List ℕ)
lines_at t None = []
lines_at t (Some e) = instance_lines t e

-- the instances in the order of the keys' first puts
abbrev pub all_lines : Tree → Instances → List (List ℕ)
all_lines t [] = []
all_lines t (e ∷ es) = instance_lines t e ++ all_lines t es

abbrev pub instances_end : Tree → Instances → Output
instances_end t cache = record { pieces = all_lines t cache; ending = Done }

-- ---- the body, where these instances are kept already

abbrev pub instances_body : ℕ → Rep → Tree → Instances → ℕ → Bundle → Output
instances_body depth rep t cache k body = run Lines (taking Sample (instances_turn depth rep t)) (instances_end t) cache k body
