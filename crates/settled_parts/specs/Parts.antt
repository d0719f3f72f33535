-- What the parts stand for (this profile's own).
use Rattle.std.specs.Prelude.{Bool, Option, Some, None}
use Rattle.std.specs.Option.{option_map}
use Rattle.xt_shapes.specs.declared.leaves.Try.{Try}
use Rattle.xt_shapes.specs.Shape.{Shape}
use Rattle.xt_shapes.specs.Vals.{Slot as Body, present}
use Rattle.type_trees.specs.declared.values.Slot.{Slot}
use Rattle.type_trees.specs.declared.values.Slot.TheVariants as s
use Rattle.type_trees.specs.View.{val, body_val}
use Rattle.xcdr_model.specs.Projection as model
use Rattle.xcdr_model.specs.Projection.{settled}
use Rattle.settled_parts.specs.declared.settling.Built as b
use Rattle.settled_parts.specs.declared.settling.Built.TheVariants as bv
use Rattle.settled_parts.specs.Settling.{slot_default_of}
use Rattle.settled_parts.specs.declared.part.Made.{Made}
use Rattle.settled_parts.specs.declared.part.Made.TheVariants.{Got, Over, Failed}
use Rattle.settled_parts.specs.declared.part.Part.{Part}
use Rattle.settled_parts.specs.declared.part.Settled.{Settled}

abbrev pub made_of : Made → model.Built
made_of (Got v) = model.got (val v)
made_of (Over v) = model.over (val v)
made_of Failed = model.failed

-- a part, as projections and readings have it
abbrev pub part_of : Part → model.Part
part_of p = (made_of p.made, p.unseen)

-- the slot that a part was settled to, and whether something in it is unseen
abbrev pub settled_of : Settled → Option Body × Bool
settled_of s = (option_map body_val s.slot, s.unseen)

-- a part settled by the setting of its place
abbrev pub settled_part : Try → Bool → Shape → model.Part → Option Body × Bool
settled_part tc optional t x = (settled tc (slot_default_of optional t) present x.0, x.1)

abbrev pub built_from : Made → b.Built
built_from (Got v) = bv.Got (s.Present v)
built_from (Over v) = bv.Over v
built_from Failed = bv.Failed

abbrev pub slot_from_built : b.Built → Option Slot
slot_from_built (bv.Got x) = Some x
slot_from_built (bv.Over v) = None
slot_from_built bv.Failed = None
