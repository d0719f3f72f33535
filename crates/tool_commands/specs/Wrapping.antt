-- What `wrap` writes: the input as one record (this profile's own).
use Rattle.std.specs.Prelude.{ℕ, List, [], ◌∷◌, length, nat_lt, if◌then◌else◌, codes}
use Rattle.xt_io.specs.declared.Kind.{Kind}
use Rattle.xt_io.specs.Bundles.{limit_of}
use Rattle.xt_io.specs.Records.{record_octets}
use Rattle.tool_runs.specs.declared.output.ending.Style.TheVariants.{Lines}
use Rattle.tool_runs.specs.output.Texts.{bundle_text}
use Rattle.tool_runs.specs.output.Outputs.{Output, bundle_refusal, refused}
use Rattle.tool_runs.specs.Commands.{only}

abbrev pub wrapped : Kind → List ℕ → Output
wrapped kind octets = if nat_lt (limit_of kind) (length octets) then refused Lines (bundle_refusal (bundle_text 0 (codes "too-long"))) else only (record_octets kind octets ∷ [])
