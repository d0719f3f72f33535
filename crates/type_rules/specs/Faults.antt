-- A fault as a rule and the steps to a node (this profile's own).
use Rattle.std.specs.Prelude.{ℕ, List, Option, Some, None, Result, Ok, Err}
use Rattle.std.specs.Option.{option_map}
use Rattle.xt_shapes.specs.declared.leaves.Step.{Step}
use Rattle.type_rules.specs.declared.validity.TypeFault.{TypeFault}

abbrev pub fault_view : Option TypeFault → Option (ℕ × List Step)
fault_view = option_map (λ f. (f.rule, f.node))

abbrev pub error_view : Result (Unit {0}) TypeFault → Option (ℕ × List Step)
error_view (Ok u) = None
error_view (Err f) = Some (f.rule, f.node)
