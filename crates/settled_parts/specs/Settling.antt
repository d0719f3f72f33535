-- What settling makes of what was built (DDS-XTypes 1.3, 7.2.2.7).
use Rattle.std.specs.Prelude.{Bool, Option, Some, None, cond}
use Rattle.xt_shapes.specs.declared.leaves.Try.{Try}
use Rattle.xt_shapes.specs.Defaults.{default_of}
use Rattle.xt_shapes.specs.Shape.{Shape}
use Rattle.xt_shapes.specs.Vals.{Slot as Body, absent, present}
use Rattle.type_trees.specs.View.{val, body_val}
use Rattle.xcdr_model.specs.Projection as model
use Rattle.xcdr_model.specs.Projection.{settled}
use Rattle.xcdr_model.specs.Samples as samples
use Rattle.settled_parts.specs.declared.settling.Built.{Built}
use Rattle.settled_parts.specs.declared.settling.Built.TheVariants.{Got, Over, Failed}
use Rattle.settled_parts.specs.declared.settling.Outcome.{Outcome}
use Rattle.settled_parts.specs.declared.settling.Outcome.TheVariants.{Sample, Discarded, MustUnderstand}

-- the default at an optional place is that nothing is there
abbrev pub slot_default_of : Bool → Shape → Body
slot_default_of optional t = cond optional absent (present (default_of t))

abbrev pub settled_slot : Try → Bool → Shape → Built → Option Body
settled_slot tc optional t (Got s) = Some (body_val s)
settled_slot tc optional t (Over v) = settled tc (slot_default_of optional t) present (model.over (val v))
settled_slot tc optional t Failed = settled tc (slot_default_of optional t) present model.failed

-- the slot that was got
abbrev pub slot_of : Built → Option Body
slot_of (Got s) = Some (body_val s)
slot_of (Over v) = None
slot_of Failed = None

abbrev pub IsSettled : Built → Type 0
IsSettled (Got s) = Unit {0}
IsSettled (Over v) = ⊥
IsSettled Failed = Unit {0}

-- what a sample is to its reader
abbrev pub outcome_val : Outcome → samples.Outcome
outcome_val (Sample v) = samples.sample (val v)
outcome_val Discarded = samples.discarded
outcome_val MustUnderstand = samples.must_understand
