-- Laws: what follows from the rules of valid types alone (this profile's own).
use Rattle.std.specs.Prelude.{IsTrue}
use Rattle.xt_shapes.specs.Defaults.{default_of}
use Rattle.xt_shapes.specs.NodeRules.{rules_hold}
use Rattle.xt_shapes.specs.Shape.{Shape}
use Rattle.xt_shapes.specs.Typing.{has_type}
use Rattle.xcdr_model.specs.Premises.{premises_hold}

-- All that the laws ask of a type holds where the rules hold at each of its nodes.
abbrev pub PremisesHold : Type 0
PremisesHold = (t : Shape) → IsTrue (rules_hold t) → IsTrue (premises_hold t)

-- A valid type's default has the type.
abbrev pub DefaultTyped : Type 0
DefaultTyped = (t : Shape) → IsTrue (rules_hold t) → IsTrue (has_type t (default_of t))
