-- Settling, by what was made.
use Rattle.std.proofs.Common.{◌≡◌, refl, Bool, Some, ap}
use Rattle.std.specs.Option.{option_map}
use Rattle.xt_shapes.specs.declared.leaves.Try.{Try}
use Rattle.xt_shapes.specs.Shape.{Shape}
use Rattle.xt_shapes.specs.Vals.{present}
use Rattle.type_trees.specs.View.{body_val}
use Rattle.type_trees.proofs.Views.{body_val_present}
use Rattle.settled_parts.specs.declared.settling.Built.{Built}
use Rattle.settled_parts.specs.declared.settling.Built.TheVariants.{Got, Over, Failed}
use Rattle.settled_parts.specs.Settling.{slot_default_of, settled_slot, slot_of}
use Rattle.xcdr_model.specs.Projection.{settled}
use Rattle.settled_parts.specs.declared.part.Made as made
use Rattle.settled_parts.specs.declared.part.Made.TheVariants as m
use Rattle.settled_parts.specs.Parts.{made_of, built_from, slot_from_built}

pub slot_is : (b : Built) → option_map body_val (slot_from_built b) ≡ slot_of b
slot_is (Got s) = refl
slot_is (Over v) = refl
slot_is Failed = refl

pub settled_is : (tc : Try) (optional : Bool) (t : Shape) (x : made.Made) → settled_slot tc optional t (built_from x) ≡ settled tc (slot_default_of optional t) present (made_of x)
settled_is tc optional t (m.Got v) = ap (λ b. Some b) (body_val_present v)
settled_is tc optional t (m.Over v) = refl
settled_is tc optional t m.Failed = refl

pub ruleset part_rules = (slot_is, settled_is)
