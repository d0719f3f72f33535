-- The record of a value's sample, or the refusal of a text that is no value (this profile's own).
use Rattle.std.specs.Prelude.{◌≡◌, ◌≤◌, ℕ, List, [], ◌∷◌, ◌++◌, Result, Ok, Err, codes}
use Rattle.json_values.specs.declared.faults.ValueFault.{ValueFault}
use Rattle.json_values.specs.declared.faults.ValueFault.TheVariants.{NotJson, Wrong, OutOfMemory}
use Rattle.json_values.specs.Words.{rule_text}
use Rattle.xt_shapes.specs.declared.leaves.Order.TheVariants.{Little}
use Rattle.xt_shapes.specs.declared.leaves.Rep.{Rep}
use Rattle.type_trees.specs.declared.values.Value.{Value}
use Rattle.type_trees.specs.Trees.{Tree}
use Rattle.type_trees.specs.Bridge.{shape}
use Rattle.type_trees.specs.View.{val}
use Rattle.type_trees.specs.Paths.{path_text}
use Rattle.xcdr_model.specs.SampleSpelling.{fixed_sample, sample_size}
use Rattle.xt_io.specs.declared.Kind.TheVariants.{Sample}
use Rattle.xt_io.specs.Records.{record_octets}
use Rattle.tool_runs.specs.declared.output.halt.Halt.TheVariants as halts
use Rattle.tool_runs.specs.declared.output.stop.Stop.{Stop}
use Rattle.tool_runs.specs.declared.output.stop.Stop.TheVariants as stops
use Rattle.tool_runs.specs.output.Outputs.{Turn, goes_on, over}
use Rattle.tool_runs.specs.output.Runs.{Refuses, refusal}
use Rattle.tool_samples.specs.lines.Lines.{json_refusal}

-- What is answered of a turn: its one piece, or its refusal, unless memory was wanting.
abbrev pub Turned : Turn (Unit {0}) → Result (List ℕ) Stop → Type 0
Turned (goes_on pieces u) (Ok piece) = pieces ≡ piece ∷ []
Turned (goes_on pieces u) (Err (stops.Refused r)) = ⊥
Turned (goes_on pieces u) (Err (stops.Halted halt)) = halt ≡ halts.OutOfMemory
Turned (over said) (Ok piece) = ⊥
Turned (over said) (Err (stops.Refused r)) = refusal r ≡ said
Turned (over said) (Err (stops.Halted halt)) = halt ≡ halts.OutOfMemory

-- what the fault of the text of record k says
abbrev pub ValueStops : ℕ → ValueFault → Stop → Type 0
ValueStops k NotJson stop = Refuses (json_refusal k (codes "syntax")) stop
ValueStops k (Wrong path rule) stop = Refuses (json_refusal k (rule_text rule ++ codes " " ++ path_text path)) stop
ValueStops k OutOfMemory stop = stop ≡ stops.Halted halts.OutOfMemory

-- the value whose sample's record a turn writes, and how many octets the sample has
abbrev pub TurnsTo : Rep → Tree → Turn (Unit {0}) → Result (Value × ℕ) Stop → Type 0
TurnsTo rep t turn (Ok x) = Turned turn (Ok (record_octets Sample (fixed_sample rep Little (shape t) (val x.0)))) × (x.1 ≡ sample_size rep (shape t) (val x.0)) × (x.1 ≤ 1048576)
TurnsTo rep t turn (Err stop) = Turned turn (Err stop)
