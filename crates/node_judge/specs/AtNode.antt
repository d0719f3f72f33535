-- A rule that fails at a node itself, as a failure with its path (this profile's own).
use Rattle.std.specs.Prelude.{Option, []}
use Rattle.std.specs.Option.{option_map}
use Rattle.xcdr_model.specs.declared.verdict.Rule.{Rule}
use Rattle.xcdr_model.specs.Failure.{First}

abbrev pub at_node : Option Rule → First
at_node = option_map (λ r. (r, []))
