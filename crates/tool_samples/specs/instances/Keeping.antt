-- What a call that keeps a sample answers (this profile's own).
use Rattle.std.specs.Prelude.{◌≡◌, ◌<◌, ◌^◌, [], length, Result, Ok, Err, IsTrue}
use Rattle.xt_shapes.specs.Shape.{Shape}
use Rattle.xt_shapes.specs.Typing.{has_type}
use Rattle.xcdr_model.specs.KeyOctets.{key_octets}
use Rattle.xcdr_model.specs.Samples.{Outcome, sample, discarded, must_understand}
use Rattle.key_instances.specs.kept.Kept.{Instances}
use Rattle.tool_runs.specs.declared.output.halt.Halt.TheVariants as halts
use Rattle.tool_runs.specs.declared.output.stop.Stop.{Stop}
use Rattle.tool_runs.specs.declared.output.stop.Stop.TheVariants as stops
use Rattle.tool_runs.specs.output.Outputs.{Turn, goes_on, over}
use Rattle.tool_runs.specs.output.Runs.{refusal}

-- A value has the type, and its key is not too long.
abbrev pub HasKey : Shape → Outcome → Type 0
HasKey t (sample v) = IsTrue (has_type t v) × (length (key_octets t v) < 2 ^ 32)
HasKey t discarded = Unit {0}
HasKey t must_understand = Unit {0}

-- The turn was done and these are its instances, or it is refused, unless memory was wanting.
abbrev pub Keeps : Turn Instances → Instances → Result (Unit {0}) Stop → Type 0
Keeps (goes_on pieces next) now (Ok u) = (pieces ≡ []) × (next ≡ now)
Keeps (goes_on pieces next) now (Err (stops.Refused r)) = ⊥
Keeps (goes_on pieces next) now (Err (stops.Halted halt)) = halt ≡ halts.OutOfMemory
Keeps (over said) now (Ok u) = ⊥
Keeps (over said) now (Err (stops.Refused r)) = refusal r ≡ said
Keeps (over said) now (Err (stops.Halted halt)) = halt ≡ halts.OutOfMemory
